-- What a stop leaves amid puts, and puts in a row.
use Rattle.std.proofs.Common.{◌≡◌, ℕ, suc, Bool, true, false, List, [], ◌∷◌, ◌++◌, inl, inr, refl, sym, ap, ◌∙◌, subst, append_assoc, append-nil}
use Rattle.iss_edge.specs.declared.outside.Action.{Action}
use Rattle.iss_edge.specs.declared.outside.Action.TheVariants.{Write, Sync}
use Rattle.iss_edge.specs.World.{World}
use Rattle.iss_edge.specs.Calls.{Writes, WritesPart, Syncs, SyncsPart}
use Rattle.iss_edge.specs.Disk.{Disk, after_action, after_actions, splice, IsAtRest, IsImage}
use Rattle.iss_edge.specs.Puts.{Put, one_put, after_puts, actions_of_puts, Ran, Puts, PutsPart, syncs_after, Holds}
use Rattle.iss_edge.proofs.Images.{rest_image, IsTorn, torn_image, rests_after, failed_sync_image}

-- a prefix of such actions consists of such actions
pub ran_front : (puts : List Put) (x y : List Action) → Ran puts (x ++ y) → Ran puts x
ran_front puts [] y ran = tt
ran_front [] (a ∷ x) y ran = ran
ran_front (put ∷ puts) (a ∷ []) [] ran = ran
ran_front (put ∷ puts) (a ∷ []) (b ∷ []) ran = (true, ran.1)
ran_front (put ∷ puts) (a ∷ []) (b ∷ c ∷ y) ran = (true, ran.0)
ran_front (put ∷ puts) (a ∷ b ∷ []) [] ran = ran
ran_front (put ∷ puts) (a ∷ b ∷ []) (c ∷ y) ran = (true, ran.0, ran.1)
ran_front (put ∷ puts) (a ∷ b ∷ c ∷ x) y ran = (ran.0, ran.1, ran_front puts (c ∷ x) y ran.2)

pub holds_now : (P : ℕ → List ℕ → Type 0) (n : ℕ) (bytes : List ℕ) (puts : List Put) → Holds P n bytes puts → P n bytes
holds_now P n bytes [] h = h
holds_now P n bytes (put ∷ puts) h = h.1

-- the stop is amid the write of the first put
torn_moment : (P : ℕ → List ℕ → Type 0) (n : ℕ) (put : Put) (puts : List Put) (d : Disk) (ok : Bool) → IsAtRest d → Holds P n d.bytes (put ∷ puts) → (image : List ℕ) → IsImage (after_action d (Write put.at put.bytes ok)) image → P n image
torn_moment P n put puts d ok rest h image is =
    let torn : IsTorn put.at put.bytes d.bytes image = torn_image d put.at put.bytes ok image rest h.0 is in
    subst (P n) (sym torn.is) (h.2 torn.torn torn.whole)

-- the stop is after the sync of the first put was tried
synced_moment : (P : ℕ → List ℕ → Type 0) (n : ℕ) (put : Put) (puts : List Put) (d : Disk) (ok : Bool) → IsAtRest d → Holds P n d.bytes (put ∷ puts) → (image : List ℕ) → IsImage (after_actions d (Write put.at put.bytes true ∷ Sync ok ∷ [])) image → P (syncs_after n (Sync ok ∷ [])) image
synced_moment P n put puts d true rest h image is =
    let now = after_actions d (Write put.at put.bytes true ∷ Sync true ∷ []) in
    subst (P (suc n)) (sym (rest_image now image (rests_after d put.at put.bytes rest) is)) (holds_now P (suc n) (splice put.at put.bytes d.bytes) puts h.3)
synced_moment P n put puts d false rest h image is =
    torn_moment P n put puts d true rest h image (failed_sync_image (after_action d (Write put.at put.bytes true)) image is)

-- what holds at each moment of these puts holds of each image of the actions so far
pub put_moments : (P : ℕ → List ℕ → Type 0) (n : ℕ) (puts : List Put) (d : Disk) (actions : List Action) → IsAtRest d → Holds P n d.bytes puts → Ran puts actions → (image : List ℕ) → IsImage (after_actions d actions) image → P (syncs_after n actions) image
put_moments P n puts d [] rest h ran image is = subst (P n) (sym (rest_image d image rest is)) (holds_now P n d.bytes puts h)
put_moments P n [] d (a ∷ more) rest h ran image is = absurd ran
put_moments P n (put ∷ puts) d (a ∷ []) rest h ran image is =
    let wrote : IsImage (after_action d (Write put.at put.bytes ran.0)) image = subst (λ (x : Action). IsImage (after_action d x) image) ran.1 is in
    subst (λ (x : Action). P (syncs_after n (x ∷ [])) image) (sym ran.1) (torn_moment P n put puts d ran.0 rest h image wrote)
put_moments P n (put ∷ puts) d (a ∷ b ∷ []) rest h ran image is =
    let wrote : IsImage (after_actions d (Write put.at put.bytes true ∷ b ∷ [])) image = subst (λ (x : Action). IsImage (after_actions d (x ∷ b ∷ [])) image) ran.1 is in
    let tried : IsImage (after_actions d (Write put.at put.bytes true ∷ Sync ran.0 ∷ [])) image = subst (λ (x : Action). IsImage (after_actions d (Write put.at put.bytes true ∷ x ∷ [])) image) ran.2 wrote in
    let there : P (syncs_after n (Write put.at put.bytes true ∷ Sync ran.0 ∷ [])) image = synced_moment P n put puts d ran.0 rest h image tried in
    let sync_back : P (syncs_after n (Write put.at put.bytes true ∷ b ∷ [])) image = subst (λ (x : Action). P (syncs_after n (Write put.at put.bytes true ∷ x ∷ [])) image) (sym ran.2) there in
    subst (λ (x : Action). P (syncs_after n (x ∷ b ∷ [])) image) (sym ran.1) sync_back
put_moments P n (put ∷ puts) d (a ∷ b ∷ c ∷ more) rest h ran image is =
    let wrote : IsImage (after_actions d (Write put.at put.bytes true ∷ b ∷ c ∷ more)) image = subst (λ (x : Action). IsImage (after_actions d (x ∷ b ∷ c ∷ more)) image) ran.0 is in
    let kept : IsImage (after_actions d (Write put.at put.bytes true ∷ Sync true ∷ c ∷ more)) image = subst (λ (x : Action). IsImage (after_actions d (Write put.at put.bytes true ∷ x ∷ c ∷ more)) image) ran.1 wrote in
    let now = after_actions d (Write put.at put.bytes true ∷ Sync true ∷ []) in
    let there : P (syncs_after n (Write put.at put.bytes true ∷ Sync true ∷ c ∷ more)) image = put_moments P (suc n) puts now (c ∷ more) (rests_after d put.at put.bytes rest) h.3 ran.2 image kept in
    let sync_back : P (syncs_after n (Write put.at put.bytes true ∷ b ∷ c ∷ more)) image = subst (λ (x : Action). P (syncs_after n (Write put.at put.bytes true ∷ x ∷ c ∷ more)) image) (sym ran.1) there in
    subst (λ (x : Action). P (syncs_after n (x ∷ b ∷ c ∷ more)) image) (sym ran.0) sync_back

-- the actions of puts are such actions, also with more of them after these
pub ran_all : (puts : List Put) → Ran puts (actions_of_puts puts)
ran_all [] = tt
ran_all (put ∷ []) = (true, refl, refl)
ran_all (put ∷ next ∷ puts) = (refl, refl, ran_all (next ∷ puts))

pub ran_more : (puts more : List Put) (actions : List Action) → Ran puts actions → Ran (puts ++ more) actions
ran_more puts more [] ran = tt
ran_more [] more (a ∷ x) ran = absurd ran
ran_more (put ∷ puts) more (a ∷ []) ran = ran
ran_more (put ∷ puts) more (a ∷ b ∷ []) ran = ran
ran_more (put ∷ puts) more (a ∷ b ∷ c ∷ x) ran = (ran.0, ran.1, ran_more puts more (c ∷ x) ran.2)

pub ran_then : (puts more : List Put) (actions : List Action) → Ran more actions → Ran (puts ++ more) (actions_of_puts puts ++ actions)
ran_then [] more actions ran = ran
ran_then (put ∷ puts) more actions ran = ran_behind put (puts ++ more) (actions_of_puts puts ++ actions) (ran_then puts more actions ran)
  where
    ran_behind : (p : Put) (ps : List Put) (x : List Action) → Ran ps x → Ran (p ∷ ps) (Write p.at p.bytes true ∷ Sync true ∷ x)
    ran_behind p ps [] r = (true, refl, refl)
    ran_behind p ps (a ∷ x) r = (refl, refl, r)

pub actions_of_puts-append : (puts more : List Put) → actions_of_puts (puts ++ more) ≡ actions_of_puts puts ++ actions_of_puts more
actions_of_puts-append [] more = refl
actions_of_puts-append (put ∷ puts) more = ap (λ (l : List Action). Write put.at put.bytes true ∷ Sync true ∷ l) (actions_of_puts-append puts more)

pub after_puts-append : (bytes : List ℕ) (puts more : List Put) → after_puts bytes (puts ++ more) ≡ after_puts (after_puts bytes puts) more
after_puts-append bytes [] more = refl
after_puts-append bytes (put ∷ puts) more = after_puts-append (splice put.at put.bytes bytes) puts more

-- puts in a row, of which the last ones were made in part
pub puts_then : (puts more : List Put) (a b c : World) → Puts puts a b → Puts more b c → Puts (puts ++ more) a c
puts_then puts more a b c first second =
    record {
      device = second.device ∙ ap (λ (l : List ℕ). after_puts l more) first.device ∙ sym (after_puts-append a.device puts more);
      left = second.left ∙ first.left;
      arrivals = second.arrivals ∙ first.arrivals;
      trace =
          second.trace
          ∙ ap (λ (l : List Action). l ++ actions_of_puts more) first.trace
          ∙ append_assoc a.trace (actions_of_puts puts) (actions_of_puts more)
          ∙ ap (λ (l : List Action). a.trace ++ l) (sym (actions_of_puts-append puts more));
    }

pub part_more : (puts more : List Put) (a b : World) → PutsPart puts a b → PutsPart (puts ++ more) a b
part_more puts more a b part =
    record { left = part.left; actions = part.actions; trace = part.trace; ran = ran_more puts more part.actions part.ran }

pub part_then : (puts more : List Put) (a b c : World) → Puts puts a b → PutsPart more b c → PutsPart (puts ++ more) a c
part_then puts more a b c first part =
    record {
      left = part.left ∙ first.left;
      actions = actions_of_puts puts ++ part.actions;
      trace =
          part.trace
          ∙ ap (λ (l : List Action). l ++ part.actions) first.trace
          ∙ append_assoc a.trace (actions_of_puts puts) part.actions;
      ran = ran_then puts more part.actions part.ran;
    }

-- puts that were all made are a part of themselves
pub part_all : (puts : List Put) (a b : World) → Puts puts a b → PutsPart puts a b
part_all puts a b all =
    record { left = all.left; actions = actions_of_puts puts; trace = all.trace; ran = ran_all puts }

-- a put was made, by its write and its sync
pub put_made : (at : ℕ) (bytes : List ℕ) (a b c : World) → Writes at bytes a b → Syncs b c → Puts (one_put at bytes) a c
put_made at bytes a b c wrote made =
    record {
      device = made.device ∙ wrote.device;
      left = made.left ∙ wrote.left;
      arrivals = made.arrivals ∙ wrote.arrivals;
      trace = made.trace ∙ ap (λ (l : List Action). l ++ Sync true ∷ []) wrote.trace ∙ append_assoc a.trace (Write at bytes true ∷ []) (Sync true ∷ []);
    }

-- a put failed in its write
pub put_unwritten : (at : ℕ) (bytes : List ℕ) (a b : World) → WritesPart at bytes a b → PutsPart (one_put at bytes) a b
put_unwritten at bytes a b part =
    elim part.how [
      | inl same ↦ record { left = part.left; actions = []; trace = same.trace ∙ sym (append-nil a.trace); ran = tt }
      | inr tears ↦ record { left = part.left; actions = Write at bytes false ∷ []; trace = tears.added; ran = (false, refl) }
    ]

-- a put failed in its sync
pub put_unsynced : (at : ℕ) (bytes : List ℕ) (a b c : World) → Writes at bytes a b → SyncsPart b c → PutsPart (one_put at bytes) a c
put_unsynced at bytes a b c wrote part =
    elim part.how [
      | inl same ↦
          record {
            left = part.left ∙ wrote.left;
            actions = Write at bytes true ∷ [];
            trace = same.trace ∙ wrote.trace;
            ran = (true, refl);
          }
      | inr added ↦
          record {
            left = part.left ∙ wrote.left;
            actions = Write at bytes true ∷ Sync false ∷ [];
            trace = added ∙ ap (λ (l : List Action). l ++ Sync false ∷ []) wrote.trace ∙ append_assoc a.trace (Write at bytes true ∷ []) (Sync false ∷ []);
            ran = (false, refl, refl);
          }
    ]
