-- A text to the gateway, or to a client, by what each call of an edge tells.
use Rattle.std.proofs.Common.{◌≡◌, ℕ, true, false, List, [], ◌∷◌, Option, Some, None, subst}
use Rattle.std.specs.Prelude.{IsSome}
use Rattle.iss_edge.specs.declared.outside.Channel.{Channel}
use Rattle.iss_edge.specs.declared.outside.Action.TheVariants.{Emit, Dial, Close}
use Rattle.iss_edge.specs.declared.outside.Answered.{Answered}
use Rattle.iss_edge.specs.declared.outside.Answered.TheVariants.{Dialled, Emitted}
use Rattle.iss_edge.specs.World.{World, Told}
use Rattle.iss_edge.specs.Calls.{Same, Dials, Emits, EmitsPart, Closes, Hears, HearsNothing}
use Rattle.iss_edge.specs.Outer.{Outer, outer_of, Adds, Tears}
use Rattle.iss_edge.proofs.Tolds.{told_map, told_then}
use Rattle.iss_edge.proofs.Outers.{told_dials, told_undialled, told_emits, told_tears, told_closes}
use Rattle.iss_http.specs.Messages.{ask}
use Rattle.iss_session.specs.Desks.{Subject, Task, to_dial, to_reply, Waiter, waiters_without, desk_with, reached, gone_unsent}
use Rattle.iss_session.specs.Sendings.{Sends}
use Rattle.iss_session.proofs.SendingLaws.{undialled_sends, sent_sends, torn_sends, replied_sends, torn_reply_sends}

-- a dial failed
pub undialled_told : (level : ℕ) (subject : Subject) (text : List ℕ) (tasks : List Task) (waiting : List Waiter) (x y : Option World) (h k : Option (List Answered))
    → Told Same x y → Told (Hears (Dialled None)) h k
    → Told (Sends level (desk_with (to_dial subject text ∷ tasks) waiting) (desk_with tasks waiting) (gone_unsent subject)) (outer_of x h) (outer_of y k)
undialled_told level subject text tasks waiting x y h k d dh =
    told_map (Adds [] (Dialled None ∷ [])) (Sends level (desk_with (to_dial subject text ∷ tasks) waiting) (desk_with tasks waiting) (gone_unsent subject))
    (outer_of x h) (outer_of y k) (undialled_sends level subject text tasks waiting) (told_undialled x y h k d dh)

-- a channel was dialled, and the text went out on it
pub sent_told : (level : ℕ) (ch : Channel) (subject : Subject) (text bytes : List ℕ) (tasks : List Task) (waiting : List Waiter)
    (x y z : Option World) (h k l : Option (List Answered)) → bytes ≡ ask text
    → Told (Dials ch) x y → Told (Hears (Dialled (Some ch))) h k → Told (Emits ch bytes) y z → Told (Hears (Emitted ch true)) k l
    → Told (Sends level (desk_with (to_dial subject text ∷ tasks) waiting) (desk_with tasks waiting) (reached ch subject ∷ [])) (outer_of x h) (outer_of z l)
sent_told level ch subject text bytes tasks waiting x y z h k l is d dh e eh =
    told_then (Adds (Dial ch ∷ []) (Dialled (Some ch) ∷ [])) (Adds (Emit ch (ask text) true ∷ []) (Emitted ch true ∷ []))
    (Sends level (desk_with (to_dial subject text ∷ tasks) waiting) (desk_with tasks waiting) (reached ch subject ∷ []))
    (outer_of x h) (outer_of y k) (outer_of z l) (sent_sends level ch subject text tasks waiting) (told_dials ch x y h k d dh)
    (told_emits ch (ask text) y z k l (subst (λ (bs : List ℕ). Told (Emits ch bs) y z) is e) eh)

-- a channel was dialled and closed again, since the text didn't go out whole
pub torn_told : (level : ℕ) (ch : Channel) (subject : Subject) (text bytes : List ℕ) (tasks : List Task) (waiting : List Waiter)
    (x y z w : Option World) (h k l m : Option (List Answered)) → bytes ≡ ask text
    → Told (Dials ch) x y → Told (Hears (Dialled (Some ch))) h k → Told (EmitsPart ch bytes) y z → Told (Hears (Emitted ch false)) k l
    → (IsSome m → Told (Closes ch) z w) → Told HearsNothing l m
    → Told (Sends level (desk_with (to_dial subject text ∷ tasks) waiting) (desk_with tasks waiting) (gone_unsent subject)) (outer_of x h) (outer_of w m)
torn_told level ch subject text bytes tasks waiting x y z w h k l m is d dh e eh closed quiet =
    let whole : Outer → Outer → Type 0 = Sends level (desk_with (to_dial subject text ∷ tasks) waiting) (desk_with tasks waiting) (gone_unsent subject) in
    let dialled : Outer → Outer → Type 0 = Adds (Dial ch ∷ []) (Dialled (Some ch) ∷ []) in
    let two : Outer → Outer → Type 0 = λ a c. (b : Outer) × (dialled a b × Tears ch (ask text) b c) in
    told_then two (Adds (Close ch ∷ []) []) whole (outer_of x h) (outer_of z l) (outer_of w m)
    (λ a c v p q. torn_sends level ch subject text tasks waiting a p.0 c v p.1.0 p.1.1 q)
    (told_then dialled (Tears ch (ask text)) two (outer_of x h) (outer_of y k) (outer_of z l) (λ a b c p q. (b, (p, q))) (told_dials ch x y h k d dh)
    (told_tears ch (ask text) y z k l (subst (λ (bs : List ℕ). Told (EmitsPart ch bs) y z) is e) eh))
    (told_closes ch z w l m closed quiet)

-- a response went out, and its channel was closed
pub replied_told : (level : ℕ) (ch : Channel) (text : List ℕ) (tasks : List Task) (waiting : List Waiter) (x y z : Option World) (h k l : Option (List Answered))
    → Told (Emits ch text) x y → Told (Hears (Emitted ch true)) h k → (IsSome l → Told (Closes ch) y z) → Told HearsNothing k l
    → Told (Sends level (desk_with (to_reply ch text ∷ tasks) waiting) (desk_with tasks (waiters_without ch waiting)) []) (outer_of x h) (outer_of z l)
replied_told level ch text tasks waiting x y z h k l e eh closed quiet =
    told_then (Adds (Emit ch text true ∷ []) (Emitted ch true ∷ [])) (Adds (Close ch ∷ []) [])
    (Sends level (desk_with (to_reply ch text ∷ tasks) waiting) (desk_with tasks (waiters_without ch waiting)) [])
    (outer_of x h) (outer_of y k) (outer_of z l) (replied_sends level ch text tasks waiting) (told_emits ch text x y h k e eh) (told_closes ch y z k l closed quiet)

-- a response didn't go out whole, and its channel was closed
pub torn_reply_told : (level : ℕ) (ch : Channel) (text : List ℕ) (tasks : List Task) (waiting : List Waiter) (x y z : Option World) (h k l : Option (List Answered))
    → Told (EmitsPart ch text) x y → Told (Hears (Emitted ch false)) h k → (IsSome l → Told (Closes ch) y z) → Told HearsNothing k l
    → Told (Sends level (desk_with (to_reply ch text ∷ tasks) waiting) (desk_with tasks (waiters_without ch waiting)) []) (outer_of x h) (outer_of z l)
torn_reply_told level ch text tasks waiting x y z h k l e eh closed quiet =
    told_then (Tears ch text) (Adds (Close ch ∷ []) [])
    (Sends level (desk_with (to_reply ch text ∷ tasks) waiting) (desk_with tasks (waiters_without ch waiting)) [])
    (outer_of x h) (outer_of y k) (outer_of z l) (torn_reply_sends level ch text tasks waiting) (told_tears ch text x y h k e eh) (told_closes ch y z k l closed quiet)
