-- What the calls for one text make of a desk, and one part of its work after another.
use Rattle.std.proofs.Common.{◌≡◌, ℕ, true, false, List, [], ◌∷◌, ◌++◌, map, Option, Some, None, refl, sym, ap, subst, ◌∙◌, append_assoc, eq-eqb}
use Rattle.std.proofs.lemmas.List.{append-nil, map-append}
use Rattle.iss_edge.specs.declared.outside.Channel.{Channel}
use Rattle.iss_edge.specs.declared.outside.Action.{Action}
use Rattle.iss_edge.specs.declared.outside.Action.TheVariants.{Emit, Dial, Close}
use Rattle.iss_edge.specs.declared.outside.Answered.{Answered}
use Rattle.iss_edge.specs.declared.outside.Answered.TheVariants.{Dialled, Emitted}
use Rattle.iss_edge.specs.Outer.{Outer, Adds, Tears, torn_actions}
use Rattle.iss_edge.specs.Stretches.{actions_of, with_levels}
use Rattle.iss_edge.proofs.Outers.{adds_then}
use Rattle.iss_edge.proofs.StretchLemmas.{actions_of-append, actions_of-leveled}
use Rattle.iss_http.specs.Messages.{ask}
use Rattle.iss_session.specs.Items.{HeardItem, leveled}
use Rattle.iss_session.specs.Desks.{Subject, Task, to_dial, to_reply, Waiter, waiters_without, Desk, desk_with, TextFate, reached, gone_unsent, desk_after, desk_steps, desk_gone, FitsDesk}
use Rattle.iss_session.specs.Sendings.{Sends}
use Rattle.iss_session.proofs.Compositions.{desk_after_append, desk_steps_append, desk_gone_append, fits_desk_append}

-- what was torn off a text, and then a close, as steps
torn_closed : (level : ℕ) (ch : Channel) (torn : Option (List ℕ))
    → actions_of ((with_levels level (torn_actions ch torn) ++ leveled level (Close ch) ∷ []) ++ []) ≡ torn_actions ch torn ++ Close ch ∷ []
torn_closed level ch torn =
    let steps = with_levels level (torn_actions ch torn) in
    ap actions_of (append-nil (steps ++ leveled level (Close ch) ∷ [])) ∙ actions_of-append steps (leveled level (Close ch) ∷ [])
    ∙ ap (λ (actions : List Action). actions ++ Close ch ∷ []) (actions_of-leveled level (torn_actions ch torn))

-- nothing was sent
pub sends_nothing : (level : ℕ) (d : Desk) (a : Outer) → Sends level d d [] a a
sends_nothing level d a =
    record {
      items = [];
      heard = sym (append-nil a.heard);
      fits = tt;
      ends = refl;
      became = refl;
      device = refl;
      trace = sym (append-nil a.world.trace);
    }

-- a dial failed
pub undialled_sends : (level : ℕ) (subject : Subject) (text : List ℕ) (tasks : List Task) (waiting : List Waiter) (a b : Outer)
    → Adds [] (Dialled None ∷ []) a b → Sends level (desk_with (to_dial subject text ∷ tasks) waiting) (desk_with tasks waiting) (gone_unsent subject) a b
undialled_sends level subject text tasks waiting a b p =
    record {
      items = record { answer = Dialled None; early = false; torn = None } ∷ [];
      heard = p.heard;
      fits = (record { answers = refl; torn = tt }, tt);
      ends = refl;
      became = append-nil (gone_unsent subject);
      device = p.device;
      trace = p.trace;
    }

-- a text went out on a channel of its own
pub sent_sends : (level : ℕ) (ch : Channel) (subject : Subject) (text : List ℕ) (tasks : List Task) (waiting : List Waiter) (a b c : Outer)
    → Adds (Dial ch ∷ []) (Dialled (Some ch) ∷ []) a b → Adds (Emit ch (ask text) true ∷ []) (Emitted ch true ∷ []) b c
    → Sends level (desk_with (to_dial subject text ∷ tasks) waiting) (desk_with tasks waiting) (reached ch subject ∷ []) a c
sent_sends level ch subject text tasks waiting a b c p q =
    let r = adds_then (Dial ch ∷ []) (Emit ch (ask text) true ∷ []) (Dialled (Some ch) ∷ []) (Emitted ch true ∷ []) a b c p q in
    record {
      items = record { answer = Dialled (Some ch); early = false; torn = None } ∷ record { answer = Emitted ch true; early = false; torn = None } ∷ [];
      heard = r.heard;
      fits = (record { answers = refl; torn = tt }, (record { answers = eq-eqb ch.0 ch.0 refl; torn = tt }, tt));
      ends = refl;
      became = refl;
      device = r.device;
      trace = r.trace;
    }

-- a text didn't go out whole, and its channel was closed
pub torn_sends : (level : ℕ) (ch : Channel) (subject : Subject) (text : List ℕ) (tasks : List Task) (waiting : List Waiter) (a b c d : Outer)
    → Adds (Dial ch ∷ []) (Dialled (Some ch) ∷ []) a b → Tears ch (ask text) b c → Adds (Close ch ∷ []) [] c d
    → Sends level (desk_with (to_dial subject text ∷ tasks) waiting) (desk_with tasks waiting) (gone_unsent subject) a d
torn_sends level ch subject text tasks waiting a b c d p q z =
    let prefix = torn_actions ch q.torn in
    let r = adds_then prefix (Close ch ∷ []) (Emitted ch false ∷ []) [] b c d q.adds z in
    let w = adds_then (Dial ch ∷ []) (prefix ++ Close ch ∷ []) (Dialled (Some ch) ∷ []) (Emitted ch false ∷ []) a b d p r in
    record {
      items = record { answer = Dialled (Some ch); early = false; torn = None } ∷ record { answer = Emitted ch false; early = false; torn = q.torn } ∷ [];
      heard = w.heard;
      fits = (record { answers = refl; torn = tt }, (record { answers = eq-eqb ch.0 ch.0 refl; torn = q.is_prefix }, tt));
      ends = refl;
      became = append-nil (gone_unsent subject);
      device = w.device;
      trace = w.trace ∙ ap (λ (actions : List Action). a.world.trace ++ Dial ch ∷ actions) (sym (torn_closed level ch q.torn));
    }

-- a response went out, and its channel was closed
pub replied_sends : (level : ℕ) (ch : Channel) (text : List ℕ) (tasks : List Task) (waiting : List Waiter) (a b c : Outer)
    → Adds (Emit ch text true ∷ []) (Emitted ch true ∷ []) a b → Adds (Close ch ∷ []) [] b c
    → Sends level (desk_with (to_reply ch text ∷ tasks) waiting) (desk_with tasks (waiters_without ch waiting)) [] a c
replied_sends level ch text tasks waiting a b c p z =
    let r = adds_then (Emit ch text true ∷ []) (Close ch ∷ []) (Emitted ch true ∷ []) [] a b c p z in
    record {
      items = record { answer = Emitted ch true; early = false; torn = None } ∷ [];
      heard = r.heard;
      fits = (record { answers = eq-eqb ch.0 ch.0 refl; torn = tt }, tt);
      ends = refl;
      became = refl;
      device = r.device;
      trace = r.trace;
    }

-- a response didn't go out whole, and its channel was closed
pub torn_reply_sends : (level : ℕ) (ch : Channel) (text : List ℕ) (tasks : List Task) (waiting : List Waiter) (a b c : Outer)
    → Tears ch text a b → Adds (Close ch ∷ []) [] b c
    → Sends level (desk_with (to_reply ch text ∷ tasks) waiting) (desk_with tasks (waiters_without ch waiting)) [] a c
torn_reply_sends level ch text tasks waiting a b c p z =
    let r = adds_then (torn_actions ch p.torn) (Close ch ∷ []) (Emitted ch false ∷ []) [] a b c p.adds z in
    record {
      items = record { answer = Emitted ch false; early = false; torn = p.torn } ∷ [];
      heard = r.heard;
      fits = (record { answers = eq-eqb ch.0 ch.0 refl; torn = p.is_prefix }, tt);
      ends = refl;
      became = refl;
      device = r.device;
      trace = r.trace ∙ ap (λ (actions : List Action). a.world.trace ++ actions) (sym (torn_closed level ch p.torn));
    }

pub sends_then : (level : ℕ) (d e f : Desk) (g k : List TextFate) (a b c : Outer) → Sends level d e g a b → Sends level e f k b c → Sends level d f (g ++ k) a c
sends_then level d e f g k a b c p q =
    let first = actions_of (desk_steps level d p.items) in
    let second = actions_of (desk_steps level e q.items) in
    let items = p.items ++ q.items in
    let answers : List HeardItem → List Answered = λ items. map (λ item. item.answer) items in
    let acts : actions_of (desk_steps level d items) ≡ first ++ second =
    ap actions_of (desk_steps_append level d p.items q.items)
    ∙ actions_of-append (desk_steps level d p.items) (desk_steps level (desk_after level d p.items) q.items)
    ∙ ap (λ (m : Desk). first ++ actions_of (desk_steps level m q.items)) p.ends in
    record {
      items = items;
      heard = q.heard ∙ ap (λ (t : List Answered). t ++ answers q.items) p.heard
          ∙ append_assoc a.heard (answers p.items) (answers q.items)
          ∙ ap (λ (t : List Answered). a.heard ++ t) (sym (map-append (λ (item : HeardItem). item.answer) p.items q.items));
      fits = fits_desk_append level d p.items q.items p.fits (subst (λ (m : Desk). FitsDesk level m q.items) (sym p.ends) q.fits);
      ends = desk_after_append level d p.items q.items ∙ ap (λ (m : Desk). desk_after level m q.items) p.ends ∙ q.ends;
      became = desk_gone_append level d p.items q.items ∙ ap (λ (t : List TextFate). t ++ desk_gone level (desk_after level d p.items) q.items) p.became
          ∙ ap (λ (m : Desk). g ++ desk_gone level m q.items) p.ends ∙ ap (λ (t : List TextFate). g ++ t) q.became;
      device = q.device ∙ p.device;
      trace = q.trace ∙ ap (λ (t : List Action). t ++ second) p.trace ∙ append_assoc a.world.trace first second
          ∙ ap (λ (t : List Action). a.world.trace ++ t) (sym acts);
    }
