-- The line of a drill, member after member.
use Rattle.std.proofs.Common.{◌≡◌, ℕ, suc, ◌+◌, arith, List, [], ◌∷◌, ◌++◌, codes, sym, ap, ◌∙◌, append_assoc, append-nil}
use Rattle.std.specs.List.{flat_map}
use Rattle.iss_model.specs.texts.Wordings.{Member, member_text, line_of, with_number}
use Rattle.iss_model.specs.texts.DrillLines.{DrillTotals, drill_members, drill_line}
use Rattle.std.specs.Prelude.{ℤ, pos, ◌+ℤ◌}
use Rattle.iss_model.specs.declared.currency.Currency.TheVariants.{Usd}
use Rattle.iss_model.specs.rules.Facts.{Facts, held_in}
use Rattle.iss_drill.specs.Names.{named}
use Rattle.iss_drill.specs.Drills.{held_of_users}
use Rattle.iss_jit.proofs.Objects.{next, object_is}

-- members that are put one after the other, each after a comma
abbrev pub put_on : List ℕ → List Member → List ℕ
put_on text [] = text
put_on text (m ∷ ms) = put_on (text ++ next m) ms

put_on-is : (text : List ℕ) (ms : List Member) → put_on text ms ≡ text ++ flat_map next ms
put_on-is text [] = sym (append-nil text)
put_on-is text (m ∷ ms) = put_on-is (text ++ next m) ms ∙ append_assoc text (next m) (flat_map next ms)

whole_line : (m : Member) (ms : List Member) → put_on (123 ∷ member_text m) ms ++ codes "}\n" ≡ line_of (m ∷ ms)
whole_line m ms =
    ap (λ (t : List ℕ). t ++ codes "}\n") (put_on-is (123 ∷ member_text m) ms)
    ∙ sym (append_assoc ((123 ∷ member_text m) ++ flat_map next ms) (125 ∷ []) (10 ∷ []))
    ∙ ap (λ (t : List ℕ). t ++ (10 ∷ [])) (object_is m ms)

-- the first member of a drill's line, and those after it
abbrev pub others_of : List Member → List Member
others_of [] = []
others_of (m ∷ ms) = ms

pub drill_line_is : (t : DrillTotals) → put_on (123 ∷ member_text (with_number (codes "approved") t.approved)) (others_of (drill_members t)) ++ codes "}\n" ≡ drill_line t
unfolding drill_line
drill_line_is t = whole_line (with_number (codes "approved") t.approved) (others_of (drill_members t))

-- ---- what is held of users

pub held_of_none : (f : Facts) (held : ℤ) → held ≡ pos 0 → held ≡ held_of_users f 0
unfolding held_of_users
held_of_none f held e = e

pub held_of_more : (f : Facts) (digit : ℕ) (held sum : ℤ) → held ≡ held_of_users f digit → sum ≡ held +ℤ held_in f (named (codes "u") digit) Usd → sum ≡ held_of_users f (digit + 1)
unfolding held_of_users
held_of_more f digit held sum e is =
    let after : suc digit ≡ digit + 1 = omega arith in
    is ∙ ap (λ (z : ℤ). z +ℤ held_in f (named (codes "u") digit) Usd) e ∙ ap (λ (n : ℕ). held_of_users f n) after
