-- All channels that are open are closed, kind by kind.
use Rattle.std.proofs.Common.{◌≡◌, ℕ, ◌+◌, ◌<◌, List, [], ◌∷◌, ◌++◌, length, map, drop, get_or, Option, refl, sym, ap, subst, ◌∙◌, append-nil, append_assoc}
use Rattle.std.proofs.lemmas.List.{map-append, drop_more}
use Rattle.iss_edge.specs.declared.outside.Channel.{Channel}
use Rattle.iss_edge.specs.declared.outside.Action.{Action}
use Rattle.iss_edge.specs.declared.outside.Action.TheVariants.{Close}
use Rattle.iss_edge.specs.Outer.{Outer, Adds}
use Rattle.iss_edge.specs.Stretches.{actions_of}
use Rattle.iss_edge.specs.World.{Told}
use Rattle.iss_edge.proofs.Outers.{adds_then}
use Rattle.iss_edge.proofs.StretchLemmas.{actions_of-append}
use Rattle.iss_edge.proofs.Tolds.{told_then}
use Rattle.iss_model.specs.declared.input.Record.{Record}
use Rattle.iss_session.specs.Sessions.{count}
use Rattle.iss_session.specs.Happenings.{closings, last_steps}
use Rattle.iss_clients.proofs.Closes.{told_adds_then}
use Rattle.iss_opening.specs.Values.{StoreNow}
use Rattle.iss_serve.specs.Closings.{open_channels}
use Rattle.iss_serve.specs.Held.{HeldNow, idle, session_at}

pub three_closed : (h : HeldNow) (x y z w : Option Outer) → Told (Adds (map Close (map (λ r. r.ch) h.clients)) []) x y → Told (Adds (map Close (map (λ v. v.ch) h.served)) []) y z
    → Told (Adds (map Close (map (λ l. l.ch) h.links.links)) []) z w → Told (Adds (map Close (open_channels h)) []) x w
three_closed h x y z w p q r =
    let a = map (λ r. r.ch) h.clients in
    let b = map (λ v. v.ch) h.served in
    let c = map (λ l. l.ch) h.links.links in
    subst (λ (l : List Action). Told (Adds l []) x w) (sym (map-append Close (a ++ b) c ∙ ap (λ (l : List Action). l ++ map Close c) (map-append Close a b)))
    (told_adds_then (map Close a ++ map Close b) (map Close c) x z w (told_adds_then (map Close a) (map Close b) x y z p q) r)

-- these are the last steps of a session
closes : (n : ℕ) (channels : List Channel) → actions_of (closings n channels) ≡ map Close channels
closes n [] = refl
closes n (ch ∷ channels) = ap (λ (l : List Action). Close ch ∷ l) (closes n channels)

pub last_closes : (store : StoreNow) (h : HeldNow) (rs : List Record) → map Close (open_channels h) ≡ actions_of (last_steps (session_at (idle store h) rs))
last_closes store h rs =
    let n = count (session_at (idle store h) rs) in
    let a = map (λ r. r.ch) h.clients in
    let b = map (λ v. v.ch) h.served in
    let c = map (λ l. l.ch) h.links.links in
    map-append Close (a ++ b) c
    ∙ ap (λ (l : List Action). l ++ map Close c) (map-append Close a b)
    ∙ ap (λ (l : List Action). l ++ map Close b ++ map Close c) (sym (closes n a))
    ∙ ap (λ (l : List Action). actions_of (closings n a) ++ l ++ map Close c) (sym (closes n b))
    ∙ ap (λ (l : List Action). actions_of (closings n a) ++ actions_of (closings n b) ++ l) (sym (closes n c))
    ∙ ap (λ (l : List Action). l ++ actions_of (closings n c)) (sym (actions_of-append (closings n a) (closings n b)))
    ∙ sym (actions_of-append (closings n a ++ closings n b) (closings n c))
