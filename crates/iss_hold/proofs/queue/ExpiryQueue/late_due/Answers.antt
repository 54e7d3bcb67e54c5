use Rattle.std.proofs.Common.{ℕ, List, [], fold, map, ap, sym, ◌∙◌, subst, arith}
use Rattle.iss_hold.specs.Expiries.{Expiry, come_of}
use Rattle.iss_hold.specs.Indexes.{names, with_name, put_expiry}
use Rattle.iss_hold.proofs.ExpiriesKept.{length_names}
use Rattle.iss_hold.proofs.NamedExpiries.{name_at}
use Rattle.iss_hold.proofs.Listed.{AreListed, its_place, listed_more, listed_before, listed_all}
use Rattle.iss_hold.proofs.queue.ExpiryQueue.late_due.Goals as goal
use Rattle.iss_hold.proofs.queue.ExpiryQueue.late_due.Goals.{in-None, in-Some+then-expiry-now}

pub loop-expiry-init : goal.loop-expiry-init
loop-expiry-init c =
    λ others a.
    record {
      rest = others;
      named =
          ap (λ (es : List ((ℕ × ℕ) × ℕ)). map (with_name (names c.args.holds.now)) es) (c.into_iter-expiry-iterator.ensures.into_iter_gives ∙ c.iter-expiry-items.ensures.rest)
          ∙ a.named;
      whole = ap (λ (es : List Expiry). fold put_expiry es (come_of c.args.now others)) c.new-due.ensures.empty;
    }

pub at-requires : goal.at-requires
at-requires c =
    let hs = c.args.holds.now in
    let below =
    its_place (names hs) c.args.now c.in-Some.expiry.now c.in-Some.place.now c.next.new.self c.loop-expiry.due.entries (fold put_expiry [] (come_of c.args.now c.requires.others))
    (subst (λ (left : List ((ℕ × ℕ) × ℕ)). AreListed (names hs) c.args.now left c.loop-expiry.due.entries (fold put_expiry [] (come_of c.args.now c.requires.others))) c.in-Some.ensures.steps
    (c.loop-expiry.invariant c.requires.others c.requires.rest)) in
    let same = length_names hs in
    omega arith

pub loop-expiry-preserved : goal.loop-expiry-preserved
loop-expiry-preserved c =
    let hs = c.args.holds.now in
    λ others a.
    let all : List Expiry = fold put_expiry [] (come_of c.args.now others) in
    let here = subst (λ (left : List ((ℕ × ℕ) × ℕ)). AreListed (names hs) c.args.now left c.loop-expiry.due.entries all) c.in-Some.ensures.steps (c.loop-expiry.invariant others a) in
    subst (λ (listed : List Expiry). AreListed (names hs) c.args.now c.next.new.self listed all) (sym c.in_ok-insert.ensures.entries)
    (listed_more here c.if-expiry-now.false (name_at hs c.in-Some.place.now c.at.result c.at.ensures))

pub returns : goal.returns
returns c =
    let hs = c.args.holds.now in
    λ others a.
    let all : List Expiry = fold put_expiry [] (come_of c.args.now others) in
    elim c.match-next.branch [
      | in-None w ↦ listed_all (subst (λ (left : List ((ℕ × ℕ) × ℕ)). AreListed (names hs) c.args.now left c.loop-expiry.due.entries all) w.in-None.ensures.steps.0 (c.loop-expiry.invariant others a))
      | in-Some+then-expiry-now w ↦
          listed_before (subst (λ (left : List ((ℕ × ℕ) × ℕ)). AreListed (names hs) c.args.now left c.loop-expiry.due.entries all) w.in-Some.ensures.steps (c.loop-expiry.invariant others a)) w.if-expiry-now.true
    ]
