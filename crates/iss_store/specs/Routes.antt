-- Where what is said goes out.
use Rattle.std.specs.Prelude.{◌≡◌}
use Rattle.iss_store.specs.declared.routes.Routes.{Routes}
use Rattle.iss_store.specs.declared.routes.Kind.TheVariants.{Lines, Served}

-- all that is said goes out as lines on channel 0
abbrev pub IsLines : Routes → Type 0
IsLines r = r.kind ≡ Lines

-- clients are served: what is said goes to those that wait, and to the gateway
abbrev pub IsServed : Routes → Type 0
IsServed r = r.kind ≡ Served
