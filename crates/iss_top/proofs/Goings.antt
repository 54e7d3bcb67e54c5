-- Parts of a run on a device, one after the other, and those that only say something.
use Rattle.std.proofs.Common.{◌≡◌, ℕ, ◌⊎◌, ◌&&◌, ◌==◌, inl, inr, Bool, true, false, cond, List, [], ◌∷◌, ◌++◌, length, refl, sym, ap, subst, ◌∙◌, append-nil, append_assoc}
use Rattle.std.specs.List.{filter, list_all}
use Rattle.std.proofs.lemmas.Bool.{and_parts}
use Rattle.std.proofs.lemmas.List.{map-append}
use Rattle.std.proofs.lemmas.List.Folds.{list_all-append}
use Rattle.iss_edge.specs.declared.outside.Action.{Action}
use Rattle.iss_edge.specs.declared.outside.Action.TheVariants.{Write, Sync, Emit, Dial, Close}
use Rattle.iss_edge.specs.World.{World}
use Rattle.iss_edge.specs.Stretches.{Step, actions_of, is_still, AreStill, with_levels}
use Rattle.iss_edge.proofs.StretchLemmas.{actions_of-append, still_append, actions_of-leveled, sent_leveled}
use Rattle.iss_halves.specs.Forms.{Form, Seat}
use Rattle.iss_model.specs.declared.input.Record.{Record}
use Rattle.iss_model.specs.run.Transcripts.{Text, at_level}
use Rattle.iss_standing.specs.Goings.{channel_steps, StepsGo}
use Rattle.iss_standing.proofs.Goings as joins
use Rattle.iss_texts.specs.Sending.{emits, FailsAt, GoOut, Says, SaysSome}
use Rattle.iss_texts.proofs.Saying.{all_out}
use Rattle.iss_top.specs.Dry.{each_bytes}
use Rattle.iss_top.specs.Progress.{is_output}
use Rattle.iss_top.specs.Replaying.{outputs_of, is_of_run, output_levels, levels_of, text_step, text_steps, step_levels, TextsGo, StepsGoOn, TextsGoPart}

-- ---- texts as steps

text_actions : (texts : List Text) → actions_of (text_steps texts) ≡ emits (each_bytes texts)
text_actions [] = refl
text_actions (text ∷ texts) = ap (λ (l : List Action). Emit (record { 0 = 0 }) text.bytes true ∷ l) (text_actions texts)

text_levels : (texts : List Text) → step_levels (text_steps texts) ≡ levels_of texts
text_levels [] = refl
text_levels (text ∷ texts) = ap (λ (l : List ℕ). text.level ∷ l) (text_levels texts)

steps_at : (n : ℕ) (texts : List (List ℕ)) → text_steps (at_level n texts) ≡ with_levels n (emits texts)
steps_at n [] = refl
steps_at n (text ∷ texts) = ap (λ (l : List Step). text_step (record { level = n; bytes = text }) ∷ l) (steps_at n texts)

step_levels_then : (x y : List Step) → step_levels (x ++ y) ≡ step_levels x ++ step_levels y
step_levels_then x y = map-append (λ (step : Step). step.level) x y

bytes_at : (n : ℕ) (texts : List (List ℕ)) → each_bytes (at_level n texts) ≡ texts
bytes_at n [] = refl
bytes_at n (text ∷ texts) = ap (λ (l : List (List ℕ)). text ∷ l) (bytes_at n texts)

-- ---- one after the other

pub goes_then : (form : Form) (x y z : Seat) (rs rs' rs'' : List Record) (t u : List Text) (a b c : World) → TextsGo form x y rs rs' t a b → TextsGo form y z rs' rs'' u b c → TextsGo form x z rs rs'' (t ++ u) a c
goes_then form x y z rs rs' rs'' t u a b c f g =
    subst (λ (l : List Step). StepsGo form x z rs rs'' l a c) (sym (map-append text_step t u))
    (joins.goes_then form x y z rs rs' rs'' (text_steps t) (text_steps u) a b c f g)

-- some of the texts that come after others went out, and those others did
out_then : (xs ys : List (List ℕ)) (actions : List Action) → GoOut ys actions → GoOut (xs ++ ys) (emits xs ++ actions)
out_then xs ys actions out =
    record {
      whole = xs ++ out.whole;
      rest = out.rest;
      cut = ap (λ (l : List (List ℕ)). xs ++ l) out.cut ∙ sym (append_assoc xs out.whole out.rest);
      last = out.last;
      done =
          ap (λ (l : List Action). emits xs ++ l) out.done
          ∙ sym (append_assoc (emits xs) (emits out.whole) out.last)
          ∙ ap (λ (l : List Action). l ++ out.last) (sym (map-append (λ (text : List ℕ). Emit (record { 0 = 0 }) text true) xs out.whole));
      ended = out.ended;
    }

pub goes_then_part : (failed : Type 0) (form : Form) (x y : Seat) (rs rs' rs'' : List Record) (t u : List Text) (a b c : World) → TextsGo form x y rs rs' t a b → TextsGoPart failed form y rs' rs'' u b c
    → TextsGoPart failed form x rs rs'' (t ++ u) a c
goes_then_part failed form x y rs rs' rs'' t u a b c f g =
    let said = text_steps t ++ g.said in
    let bytes : each_bytes (t ++ u) ≡ each_bytes t ++ each_bytes u = map-append (λ (text : Text). text.bytes) t u in
    let done : actions_of said ≡ emits (each_bytes t) ++ actions_of g.said =
    actions_of-append (text_steps t) g.said ∙ ap (λ (l : List Action). l ++ actions_of g.said) (text_actions t) in
    let levels : levels_of t ++ step_levels g.said ≡ step_levels said =
    ap (λ (l : List ℕ). l ++ step_levels g.said) (sym (text_levels t)) ∙ sym (step_levels_then (text_steps t) g.said) in
    record {
      said = said;
      out =
          subst (λ (l : List (List ℕ)). GoOut l (actions_of said)) (sym bytes)
          (subst (λ (l : List Action). GoOut (each_bytes t ++ each_bytes u) l) (sym done)
          (out_then (each_bytes t) (each_bytes u) (actions_of g.said) g.out));
      levels = (
        g.levels.0,
        map-append (λ (text : Text). text.level) t u
            ∙ ap (λ (l : List ℕ). levels_of t ++ l) g.levels.1
            ∙ sym (append_assoc (levels_of t) (step_levels g.said) g.levels.0)
            ∙ ap (λ (l : List ℕ). l ++ g.levels.0) levels,
      );
      part = joins.goes_then_part form x y rs rs' rs'' (text_steps t) g.said a b c f g.part;
      whole =
          elim g.whole [
            | inl on ↦ inl (record { to = on.to; goes = joins.goes_then form x y on.to rs rs' rs'' (text_steps t) g.said a b c f on.goes })
            | inr fails ↦ inr fails
          ];
    }

-- what goes on is good
pub goes_part : (failed : Type 0) (form : Form) (x y : Seat) (rs rs' : List Record) (t : List Text) (a b : World) → TextsGo form x y rs rs' t a b → TextsGoPart failed form x rs rs' t a b
goes_part failed form x y rs rs' t a b f =
    record {
      said = text_steps t;
      out = subst (λ (l : List Action). GoOut (each_bytes t) l) (sym (text_actions t)) (all_out (each_bytes t));
      levels = ([], sym (text_levels t) ∙ sym (append-nil (step_levels (text_steps t))));
      part = joins.goes_part form x y rs rs' (text_steps t) a b f;
      whole = inl (record { to = y; goes = f });
    }

-- ---- texts that are said when this many records stand

pub emits_still : (texts : List (List ℕ)) → AreStill (emits texts)
emits_still [] = tt
emits_still (text ∷ texts) = (refl, emits_still texts)

pub says_goes : (form : Form) (x : Seat) (rs : List Record) (texts : List (List ℕ)) (a b : World) → Says texts a b → TextsGo form x x rs rs (at_level (length rs) texts) a b
says_goes form x rs texts a b says =
    let n = length rs in
    let steps = with_levels n (emits texts) in
    let same : actions_of steps ≡ emits texts = actions_of-leveled n (emits texts) in
    subst (λ (l : List Step). StepsGo form x x rs rs l a b) (sym (steps_at n texts))
    (joins.still_goes form x rs steps a b (subst AreStill (sym same) (emits_still texts)) (sent_leveled n (emits texts)) says.sends.device
    (says.sends.grew ∙ ap (λ (l : List Action). a.trace ++ l) (sym same)))

-- ---- texts of which some were said

still_last : (rest : List (List ℕ)) (last : List Action) → (last ≡ []) ⊎ FailsAt rest last → AreStill last
still_last rest last ended =
    elim ended [
      | inl none ↦ subst AreStill (sym none) tt
      | inr fails ↦ subst AreStill (sym fails.action) (refl, tt)
    ]

pub still_out : (texts : List (List ℕ)) (actions : List Action) → GoOut texts actions → AreStill actions
still_out texts actions out =
    subst AreStill (sym out.done) (still_append (emits out.whole) out.last (emits_still out.whole) (still_last out.rest out.last out.ended))

-- what was said leaves the device as it was
pub some_goes : (form : Form) (x : Seat) (rs : List Record) (texts : List (List ℕ)) (a b : World) (says : SaysSome texts a b) → StepsGo form x x rs rs (with_levels (length rs) says.sends.actions) a b
some_goes form x rs texts a b says =
    let n = length rs in
    let actions = says.sends.actions in
    let same : actions_of (with_levels n actions) ≡ actions = actions_of-leveled n actions in
    joins.still_goes form x rs (with_levels n actions) a b (subst AreStill (sym same) (still_out texts actions says.sends.out)) (sent_leveled n actions) says.sends.device
    (says.sends.grew ∙ ap (λ (l : List Action). a.trace ++ l) (sym same))

-- the levels of the texts that went out come first among those of all
abbrev LevelsFirst : ℕ → List (List ℕ) → List Action → Type 0
LevelsFirst n texts actions = (later : List ℕ) × (levels_of (at_level n texts) ≡ step_levels (with_levels n actions) ++ later)

levels_last : (n : ℕ) (rest : List (List ℕ)) (last : List Action) → (last ≡ []) ⊎ FailsAt rest last → LevelsFirst n rest last
levels_last n rest last ended =
    elim ended [
      | inl none ↦ (levels_of (at_level n rest), ap (λ (l : List Action). step_levels (with_levels n l) ++ levels_of (at_level n rest)) (sym none))
      | inr fails ↦ (
        levels_of (at_level n fails.others),
        ap (λ (l : List (List ℕ)). levels_of (at_level n l)) fails.first
            ∙ ap (λ (l : List Action). step_levels (with_levels n l) ++ levels_of (at_level n fails.others)) (sym fails.action),
      )
    ]

levels_whole : (n : ℕ) (whole rest : List (List ℕ)) (last : List Action) → LevelsFirst n rest last → LevelsFirst n (whole ++ rest) (emits whole ++ last)
levels_whole n [] rest last h = h
levels_whole n (text ∷ whole) rest last h =
    let more = levels_whole n whole rest last h in
    (more.0, ap (λ (l : List ℕ). n ∷ l) more.1)

levels_out : (n : ℕ) (texts : List (List ℕ)) (actions : List Action) → GoOut texts actions → LevelsFirst n texts actions
levels_out n texts actions out =
    let h = levels_whole n out.whole out.rest out.last (levels_last n out.rest out.last out.ended) in (
      h.0,
      ap (λ (l : List (List ℕ)). levels_of (at_level n l)) out.cut
          ∙ h.1
          ∙ ap (λ (l : List Action). step_levels (with_levels n l) ++ h.0) (sym out.done),
    )

pub says_goes_part : (failed : Type 0) (form : Form) (x : Seat) (rs : List Record) (texts : List (List ℕ)) (a b : World) → SaysSome texts a b → TextsGoPart failed form x rs rs (at_level (length rs) texts) a b
says_goes_part failed form x rs texts a b says =
    let n = length rs in
    let actions = says.sends.actions in
    let steps = with_levels n actions in
    record {
      said = steps;
      out =
          subst (λ (l : List (List ℕ)). GoOut l (actions_of steps)) (sym (bytes_at n texts))
          (subst (λ (l : List Action). GoOut texts l) (sym (actions_of-leveled n actions)) says.sends.out);
      levels = levels_out n texts actions says.sends.out;
      part = joins.goes_part form x x rs rs steps a b (some_goes form x rs texts a b says);
      whole = inl (record { to = x; goes = some_goes form x rs texts a b says });
    }

-- ---- texts after those of which some went out

fails_more : (xs ys : List (List ℕ)) (last : List Action) → FailsAt xs last → FailsAt (xs ++ ys) last
fails_more xs ys last f =
    record {
      text = f.text;
      others = f.others ++ ys;
      first = ap (λ (l : List (List ℕ)). l ++ ys) f.first;
      prefix = f.prefix;
      back = f.back;
      cut = f.cut;
      action = f.action;
    }

out_more : (xs ys : List (List ℕ)) (actions : List Action) → GoOut xs actions → GoOut (xs ++ ys) actions
out_more xs ys actions out =
    record {
      whole = out.whole;
      rest = out.rest ++ ys;
      cut = ap (λ (l : List (List ℕ)). l ++ ys) out.cut ∙ append_assoc out.whole out.rest ys;
      last = out.last;
      done = out.done;
      ended = elim out.ended [ inl none ↦ inl none | inr fails ↦ inr (fails_more out.rest ys out.last fails) ];
    }

pub part_more : (failed : Type 0) (form : Form) (x : Seat) (rs rs' : List Record) (t u : List Text) (a b : World) → TextsGoPart failed form x rs rs' t a b → TextsGoPart failed form x rs rs' (t ++ u) a b
part_more failed form x rs rs' t u a b f =
    record {
      said = f.said;
      out =
          subst (λ (l : List (List ℕ)). GoOut l (actions_of f.said)) (sym (map-append (λ (text : Text). text.bytes) t u))
          (out_more (each_bytes t) (each_bytes u) (actions_of f.said) f.out);
      levels = (
        f.levels.0 ++ levels_of u,
        map-append (λ (text : Text). text.level) t u
            ∙ ap (λ (l : List ℕ). l ++ levels_of u) f.levels.1
            ∙ append_assoc (step_levels f.said) f.levels.0 (levels_of u),
      );
      part = f.part;
      whole = f.whole;
    }

-- what failed may be told as something else
pub part_fails : (failed other : Type 0) (form : Form) (x : Seat) (rs rs' : List Record) (t : List Text) (a b : World) → (failed → other) → TextsGoPart failed form x rs rs' t a b → TextsGoPart other form x rs rs' t a b
part_fails failed other form x rs rs' t a b so f =
    record { said = f.said; out = f.out; levels = f.levels; part = f.part; whole = elim f.whole [ inl goes ↦ inl goes | inr fails ↦ inr (so fails) ] }

-- ---- nothing at all

pub goes_nothing : (form : Form) (x : Seat) (rs : List Record) (a : World) → TextsGo form x x rs rs [] a a
goes_nothing form x rs a = joins.nothing_goes form x rs a

-- whatever was to be said
pub part_nothing : (failed : Type 0) (form : Form) (x : Seat) (rs : List Record) (t : List Text) (a : World) → TextsGoPart failed form x rs rs t a a
part_nothing failed form x rs t a =
    record {
      said = [];
      out = record { whole = []; rest = each_bytes t; cut = refl; last = []; done = refl; ended = inl refl };
      levels = (levels_of t, refl);
      part = joins.goes_part form x x rs rs [] a a (joins.nothing_goes form x rs a);
      whole = inl (record { to = x; goes = joins.nothing_goes form x rs a });
    }

-- ---- what went out is what was done on channels

abbrev with_action : Action → ℕ → Step
with_action action level = record { action = action; level = level }

outputs_by : (action : Action) (level : ℕ) (steps : List Step) → outputs_of (actions_of steps) ≡ outputs_of (actions_of (channel_steps steps))
    → outputs_of (action ∷ actions_of steps) ≡ outputs_of (actions_of (cond (is_still action) (with_action action level ∷ channel_steps steps) (channel_steps steps)))
outputs_by (Write at bytes ok) level steps rest = rest
outputs_by (Sync ok) level steps rest = rest
outputs_by (Emit ch bytes ok) level steps rest = ap (λ (l : List Action). cond (ch.0 == 0) (Emit ch bytes ok ∷ l) l) rest
outputs_by (Dial ch) level steps rest = rest
outputs_by (Close ch) level steps rest = rest

pub outputs_channels : (steps : List Step) → outputs_of (actions_of steps) ≡ outputs_of (actions_of (channel_steps steps))
outputs_channels [] = refl
outputs_channels (step ∷ steps) = outputs_by step.action step.level steps (outputs_channels steps)

levels_sent : (step : Step) (sends : Bool) (x y : List Step) → step_levels x ≡ step_levels y → step_levels (cond sends (step ∷ x) x) ≡ step_levels (cond sends (step ∷ y) y)
levels_sent step true x y rest = ap (λ (l : List ℕ). step.level ∷ l) rest
levels_sent step false x y rest = rest

abbrev sent_steps : List Step → List Step
sent_steps steps = filter (λ (step : Step). is_output step.action) steps

levels_by : (action : Action) (level : ℕ) (steps : List Step) → output_levels steps ≡ output_levels (channel_steps steps)
    → output_levels (with_action action level ∷ steps) ≡ output_levels (cond (is_still action) (with_action action level ∷ channel_steps steps) (channel_steps steps))
levels_by (Write at bytes ok) level steps rest = rest
levels_by (Sync ok) level steps rest = rest
levels_by (Emit ch bytes ok) level steps rest = levels_sent (with_action (Emit ch bytes ok) level) (ch.0 == 0) (sent_steps steps) (sent_steps (channel_steps steps)) rest
levels_by (Dial ch) level steps rest = rest
levels_by (Close ch) level steps rest = rest

levels_channels : (steps : List Step) → output_levels steps ≡ output_levels (channel_steps steps)
levels_channels [] = refl
levels_channels (step ∷ steps) = levels_by step.action step.level steps (levels_channels steps)

kinds_by : (action : Action) (level : ℕ) (steps : List Step) → list_all is_of_run (actions_of steps) ≡ list_all is_of_run (actions_of (channel_steps steps))
    → list_all is_of_run (action ∷ actions_of steps) ≡ list_all is_of_run (actions_of (cond (is_still action) (with_action action level ∷ channel_steps steps) (channel_steps steps)))
kinds_by (Write at bytes ok) level steps rest = rest
kinds_by (Sync ok) level steps rest = rest
kinds_by (Emit ch bytes ok) level steps rest = ap (λ (all : Bool). (ch.0 == 0) && all) rest
kinds_by (Dial ch) level steps rest = refl
kinds_by (Close ch) level steps rest = refl

kinds_channels : (steps : List Step) → list_all is_of_run (actions_of steps) ≡ list_all is_of_run (actions_of (channel_steps steps))
kinds_channels [] = refl
kinds_channels (step ∷ steps) = kinds_by step.action step.level steps (kinds_channels steps)

both_true : (s t : Bool) → s ≡ true → t ≡ true → (s && t) ≡ true
both_true s t p q = rw (p, q) refl

-- each of these goes out on channel 0
abbrev AreOutputs : List Action → Type 0
AreOutputs actions = list_all is_output actions ≡ true

emits_sent : (texts : List (List ℕ)) → AreOutputs (emits texts)
emits_sent [] = refl
emits_sent (text ∷ texts) = emits_sent texts

last_sent : (rest : List (List ℕ)) (last : List Action) → (last ≡ []) ⊎ FailsAt rest last → AreOutputs last
last_sent rest last ended =
    elim ended [
      | inl none ↦ subst AreOutputs (sym none) refl
      | inr fails ↦ subst AreOutputs (sym fails.action) refl
    ]

out_sent : (texts : List (List ℕ)) (actions : List Action) → GoOut texts actions → AreOutputs actions
out_sent texts actions out =
    subst AreOutputs (sym out.done)
    (list_all-append is_output (emits out.whole) out.last
    ∙ both_true (list_all is_output (emits out.whole)) (list_all is_output out.last) (emits_sent out.whole) (last_sent out.rest out.last out.ended))

outputs_alone : (actions : List Action) → AreOutputs actions → outputs_of actions ≡ actions
outputs_alone [] sent = refl
outputs_alone (action ∷ actions) sent =
    let p = and_parts (is_output action) (list_all is_output actions) sent in
    ap (λ (sends : Bool). cond sends (action ∷ outputs_of actions) (outputs_of actions)) p.0
    ∙ ap (λ (l : List Action). action ∷ l) (outputs_alone actions p.1)

levels_alone : (steps : List Step) → AreOutputs (actions_of steps) → output_levels steps ≡ step_levels steps
levels_alone [] sent = refl
levels_alone (step ∷ steps) sent =
    let p = and_parts (is_output step.action) (list_all is_output (actions_of steps)) sent in
    let others = filter (λ (x : Step). is_output x.action) steps in
    ap (λ (sends : Bool). step_levels (cond sends (step ∷ others) others)) p.0
    ∙ ap (λ (l : List ℕ). step.level ∷ l) (levels_alone steps p.1)

output_of_run : (action : Action) → is_output action ≡ true → is_of_run action ≡ true
output_of_run (Write at bytes ok) sent = refl
output_of_run (Sync ok) sent = refl
output_of_run (Emit ch bytes ok) sent = sent
output_of_run (Dial ch) sent = absurd cc
output_of_run (Close ch) sent = absurd cc

-- nothing is done but on the device and on channel 0
abbrev pub AreOfRun : List Action → Type 0
AreOfRun actions = list_all is_of_run actions ≡ true

kinds_alone : (actions : List Action) → AreOutputs actions → AreOfRun actions
kinds_alone [] sent = refl
kinds_alone (action ∷ actions) sent =
    let p = and_parts (is_output action) (list_all is_output actions) sent in
    both_true (is_of_run action) (list_all is_of_run actions) (output_of_run action p.0) (kinds_alone actions p.1)

module _ (form : Form) (x : Seat) (rs rs' : List Record) (texts : List Text) (a b : World) where
  module _ (failed : Type 0) (p : TextsGoPart failed form x rs rs' texts a b) where
    sends_said : AreOutputs (actions_of p.said)
    sends_said = out_sent (each_bytes texts) (actions_of p.said) p.out

    part_outputs : outputs_of (actions_of p.part.steps) ≡ actions_of p.said
    part_outputs =
        outputs_channels p.part.steps ∙ ap (λ (l : List Step). outputs_of (actions_of l)) p.part.done ∙ outputs_alone (actions_of p.said) sends_said

    pub part_out : GoOut (each_bytes texts) (outputs_of (actions_of p.part.steps))
    part_out = subst (λ (l : List Action). GoOut (each_bytes texts) l) (sym part_outputs) p.out

    pub part_levels : levels_of texts ≡ output_levels p.part.steps ++ p.levels.0
    part_levels =
        p.levels.1
        ∙ ap (λ (l : List ℕ). l ++ p.levels.0) (sym (levels_channels p.part.steps ∙ ap output_levels p.part.done ∙ levels_alone p.said sends_said))

    pub part_kinds : AreOfRun (actions_of p.part.steps)
    part_kinds =
        kinds_channels p.part.steps ∙ ap (λ (l : List Step). list_all is_of_run (actions_of l)) p.part.done ∙ kinds_alone (actions_of p.said) sends_said

  pub goes_outputs : (y : Seat) (f : TextsGo form x y rs rs' texts a b) → outputs_of (actions_of f.steps) ≡ emits (each_bytes texts)
  goes_outputs y f =
      outputs_channels f.steps
      ∙ ap (λ (l : List Step). outputs_of (actions_of l)) f.done
      ∙ ap outputs_of (text_actions texts)
      ∙ outputs_alone (emits (each_bytes texts)) (emits_sent (each_bytes texts))
