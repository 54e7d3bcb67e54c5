use Rattle.std.proofs.Common.{◌≡◌, true, false, ◌+◌, ◌-◌, ◌≤◌, ◌∷◌, ◌++◌, length, drop, get_or, slice_range, sym, ap, ◌∙◌, subst, arith, take_all, length-drop}
use Rattle.std.proofs.lemmas.Slice.Eq.{bytes_eq-Decides}
use Rattle.std.specs.List.{list_all}
use Rattle.std.specs.Str.{bytes_eq}
use Rattle.json.specs.Print.{quoted}
use Rattle.iss_field.specs.Plain.{is_plain_byte}
use Rattle.iss_field.specs.Names.{name_text}
use Rattle.iss_field.proofs.NoMember.{begins_with}
use Rattle.iss_field.proofs.PlainTexts.{plain_escaped, value_first}
use Rattle.iss_field.proofs.members.value_of.Goals as goal
use Rattle.iss_field.proofs.members.value_of.Goals.{then-rest-end-via-then-rest-end, then-rest-end-via-else-rest-end+then-rest-first, then-rest-end-via-else-rest-end+else-rest-first+then-rest-ne34, then-rest-end-ne34-via-then-rest-end-ne34, then-rest-end-ne34-via-else-rest-end-ne34+then-rest-end-ne58, then-rest-end-ne34-via-else-rest-end-ne34+else-rest-end-ne58+then-not-is_named}

pub returns-clause-spelled : goal.returns-clause-spelled
returns-clause-spelled c =
    let d = c.args.rest.now in
    let name = name_text c.args.name in
    let end = length c.as_bytes-text.result.now + 2 in
    let first : get_or d 0 0 ≡ c.args.first = grind arith in
    let second : get_or d 1 0 ≡ 34 = grind arith in
    let mark : get_or d end 0 ≡ 34 = grind arith in
    let colon : get_or d (end + 1) 0 ≡ 58 = grind arith in
    let long : end + 2 ≤ length d = grind arith in
    let text : c.as_bytes-text.result.now ≡ name = c.as_bytes-text.ensures.value ∙ c.text.ensures.value in
    let size : end ≡ length name + 2 = ap (λ l. length l + 2) text in
    let plain : list_all is_plain_byte name ≡ true = subst (λ l. list_all is_plain_byte l ≡ true) c.text.ensures.value c.text.ensures.plain in
    let same : slice_range d 2 end ≡ name = (bytes_eq-Decides (slice_range d 2 end) c.as_bytes-text.result.now).0 (sym (c.if-not-is_named.ensures)) ∙ text in
    let rest = take_all (length d - (end + 2)) (drop (end + 2) d) (omega (arith, length-drop (end + 2) d)) in
    value_first d name c.args.first end size long first second mark colon same (plain_escaped name plain) ∙ ap (λ l. c.args.first ∷ (quoted name ++ (58 ∷ l))) (sym rest)

pub returns-then-rest-end-clause-none : goal.returns-then-rest-end-clause-none
returns-then-rest-end-clause-none c value spelled =
    let d = c.args.rest.now in
    let name = name_text c.args.name in
    let text : c.as_bytes-text.result.now ≡ name = c.as_bytes-text.ensures.value ∙ c.text.ensures.value in
    let size : length c.as_bytes-text.result.now ≡ length name = ap length text in
    let plain : list_all is_plain_byte name ≡ true = subst (λ l. list_all is_plain_byte l ≡ true) c.text.ensures.value c.text.ensures.plain in
    let b = begins_with d name value c.args.first (plain_escaped name plain) spelled in
    let long = b.long in
    let one = b.one in
    let two = b.two in
    elim c.then-rest-end.branch [
      | then-rest-end-via-then-rest-end w ↦ grind arith
      | then-rest-end-via-else-rest-end+then-rest-first w ↦ grind arith
      | then-rest-end-via-else-rest-end+else-rest-first+then-rest-ne34 w ↦ grind arith
    ]

pub returns-then-rest-end-ne34-clause-none : goal.returns-then-rest-end-ne34-clause-none
returns-then-rest-end-ne34-clause-none c value spelled =
    let d = c.args.rest.now in
    let name = name_text c.args.name in
    let text : c.as_bytes-text.result.now ≡ name = c.as_bytes-text.ensures.value ∙ c.text.ensures.value in
    let size : length c.as_bytes-text.result.now ≡ length name = ap length text in
    let plain : list_all is_plain_byte name ≡ true = subst (λ l. list_all is_plain_byte l ≡ true) c.text.ensures.value c.text.ensures.plain in
    let b = begins_with d name value c.args.first (plain_escaped name plain) spelled in
    let end = length c.as_bytes-text.result.now + 2 in
    let mark : get_or d end 0 ≡ 34 = ap (λ n. get_or d (n + 2) 0) size ∙ b.mark in
    let colon : get_or d (end + 1) 0 ≡ 58 = ap (λ n. get_or d (n + 2 + 1) 0) size ∙ b.colon in
    elim c.then-rest-end-ne34.branch [
      | then-rest-end-ne34-via-then-rest-end-ne34 w ↦ grind arith
      | then-rest-end-ne34-via-else-rest-end-ne34+then-rest-end-ne58 w ↦ grind arith
      | then-rest-end-ne34-via-else-rest-end-ne34+else-rest-end-ne58+then-not-is_named w ↦
          let same : slice_range d 2 end ≡ c.as_bytes-text.result.now = ap (λ n. slice_range d 2 (n + 2)) size ∙ b.named ∙ sym text in
          let yes : bytes_eq (slice_range d 2 end) c.as_bytes-text.result.now ≡ true = (bytes_eq-Decides (slice_range d 2 end) c.as_bytes-text.result.now).1 same in
          let no : false ≡ bytes_eq (slice_range d 2 end) c.as_bytes-text.result.now = w.if-not-is_named.ensures in
          cc
    ]
