use Rattle.std.proofs.Common.{refl, sym, ◌∙◌}
use Rattle.iss_opening.proofs.TakenUp.{goes_back, judged_itself, takes_up}
use Rattle.iss_opening.proofs.taking.take_in.Goals as goal

pub returns-then-accepted-now : goal.returns-then-accepted-now
returns-then-accepted-now c = record {
  takes = (
    refl,
    goes_back c.args.core c.in_ok-accepted.field-0 c.in-Some.accepted c.args.body.now c.now.result c.in-Some.is c.in_ok-accepted.ensures.found c.now.ensures.value c.if-accepted-now.true,
  );
}

pub step-requires-clause-next : goal.step-requires-clause-next
step-requires-clause-next c =
    judged_itself c.args.core c.in-Some.accepted c.in-New.field-0 c.now.result c.now.ensures.value c.if-accepted-now.false (sym c.in_ok-judged.ensures.judged ∙ c.in-New.is)

pub returns : goal.returns
returns c = record {
  takes = takes_up c.args.core c.in_ok-next.next c.in_ok-accepted.field-0 c.in-Some.accepted c.in-New.field-0 c.in_ok-judged.judged c.args.body.now c.now.result c.count.result
      (record { number = c.count-number.result; accepted = c.in-Some.accepted; entries = c.in_ok-next.entries }) c.in-Some.is c.in_ok-accepted.ensures.found c.count.ensures.value c.if-count-ge-MOST_RECORDS.false c.now.ensures.value c.if-accepted-now.false
      c.in_ok-judged.ensures.judged c.in-New.is c.in_ok-next.ensures.stepped c.count-number.ensures.value refl;
}
