-- What a desk did by what was heard.
use Rattle.std.specs.Prelude.{◌≡◌, ℕ, List, ◌++◌, map, Option, Some, None, [], ◌∷◌}
use Rattle.iss_edge.specs.declared.outside.Channel.{Channel}
use Rattle.iss_edge.specs.Outer.{Outer}
use Rattle.iss_edge.specs.Stretches.{actions_of}
use Rattle.iss_session.specs.Items.{HeardItem}
use Rattle.iss_session.specs.Desks.{Subject, Desk, TextFate, reached, gone_unsent, desk_after, desk_steps, desk_gone, FitsDesk}

-- At this number of records, a desk went from d to e, and this became of texts to the gateway. What was heard and done is just that.
pub record Sends (level : ℕ) (d e : Desk) (gone : List TextFate) (a b : Outer) : Type 0 where
  pub items : List HeardItem
  pub heard : b.heard ≡ a.heard ++ map (λ item. item.answer) items
  pub fits : FitsDesk level d items
  pub ends : desk_after level d items ≡ e
  pub became : desk_gone level d items ≡ gone
  pub device : b.world.device ≡ a.world.device
  pub trace : b.world.trace ≡ a.world.trace ++ actions_of (desk_steps level d items)

-- a text went out on a channel, or it didn't
abbrev pub gone_on : Subject → Option Channel → List TextFate
gone_on subject None = gone_unsent subject
gone_on subject (Some ch) = reached ch subject ∷ []
