use Rattle.std.proofs.Common.{◌≡◌, List, ℕ, [], ◌∷◌, ◌++◌, ◌∙◌, length, ap, ap₂, sym, arith}
use Rattle.iss_model.specs.declared.input.Record.{Record}
use Rattle.iss_model.specs.texts.Spelling.{spelling}
use Rattle.iss_accepted.specs.declared.short.ShortRow.{ShortRow}
use Rattle.iss_accepted.proofs.Steps.{in_form, new_unplaced}
use Rattle.iss_accepted.proofs.Added.{with_record}
use Rattle.iss_accepted.proofs.Changed.{ShowsShort, event_more}
use Rattle.iss_accepted.proofs.events.Events.add.Goals as goal

pub add-requires : goal.add-requires
add-requires c =
    new_unplaced _ _ _ _ c.args.self.now c.in-Some.token
    c.self.invariant.kept c.self.view_is (c.requires.new c.in-Some.token (sym c.in-Some.ensures))

-- the row that is added
abbrev newest : goal.In_ok-push → ShortRow
newest c = record { number = c.args.number; start = c.len-start.result; verdict = c.undecided.result }

-- the record that is added
abbrev record_now : goal.In_ok-push → Record
record_now c = record { at = c.args.at; input = c.args.input.now }

-- its bytes
abbrev spelled_now : goal.In_ok-push → List ℕ
spelled_now c = spelling (record_now c)

spelled_is : (c : goal.In_ok-push) → c.put_record.new.out.items ≡ spelled_now c
spelled_is c = c.in_ok-put_record.ensures.spelled ∙ ap (λ (xs : List ℕ). xs ++ spelled_now c) c.clear.ensures.items

bytes_are : (c : goal.In_ok-push) → c.extend_from_slice.new.self.items ≡ c.self.inside.bytes.items ++ spelled_now c
bytes_are c =
    c.in_ok-extend_from_slice.ensures.items
    ∙ ap₂ (λ (xs ys : List ℕ). xs ++ ys) c.in_ok-reserve-2.ensures.items (c.deref.ensures.value ∙ spelled_is c)

starts : (c : goal.In_ok-push) → c.len-start.result ≡ length c.self.inside.bytes.items
starts c = omega (arith, c.len-start.ensures, c.self.inside.bytes.ok.0)

one_more : (c : goal.In_ok-push)
    → ShowsShort c.extend_from_slice.new.self.items c.self.inside.others.items c.push.new.things.items c.add.new.self c.self.inside.decided.items
    (with_record c.args.self.now c.args.number (record_now c))
one_more c =
    event_more _ _ _ _ _ c.args.self.now
    c.self.invariant c.self.view_is
    c.extend_from_slice.new.self.items c.push.new.things.items c.add.new.self (newest c) (record_now c) c.in-Some.token
    (bytes_are c) (starts c)
    (in_form c.args.at c.args.input.now c.requires.stamp c.requires.form c.in_ok-put_record.ensures.tokens)
    c.undecided.ensures (sym c.in-Some.ensures) (c.requires.new c.in-Some.token (sym c.in-Some.ensures))
    c.in_ok-add.ensures.added
    (c.in_ok-push.ensures.pushed ∙ ap (λ (xs : List ShortRow). xs ++ newest c ∷ []) c.in_ok-reserve.ensures.items)

pub invariant_of-self-2 : goal.invariant_of-self-2
invariant_of-self-2 c = (one_more c).kept

pub returns-clause-added : goal.returns-clause-added
returns-clause-added c = (one_more c).view
