use Rattle.std.proofs.Common.{◌≡◌, ℕ, List, true, false, Some, Err, length, fold, refl, ap, subst, ◌∙◌, arith, rules}
use Rattle.memchr.specs.Find.{IsFirstByte, is_byte}
use Rattle.iss_edge.specs.Outer.{outer_of}
use Rattle.iss_edge.proofs.Tolds.{later_self, later_then}
use Rattle.iss_top.specs.declared.reader.AtHand.{AtHand}
use Rattle.iss_top.specs.Lines.{has_line_feed, kept_with}
use Rattle.iss_top.specs.Pieces.{unread_of}
use Rattle.iss_top.specs.AtHand.{seen_reader}
use Rattle.iss_top.proofs.Finding.{found_none}
use Rattle.iss_top.proofs.Hands.{line_advances, last_advances, line_is_kept, room_so_far}
use Rattle.iss_top.proofs.ToldReading.{told_so_far_begins, told_so_far_more, told_part_ends, told_part_is_last, told_part_stops}
use Rattle.iss_top.proofs.ToldHears.{told_reads_begins, told_reads_more}
use Rattle.iss_top.proofs.reader.AtHand.read_line.Goals as goal

pub pieces-init : goal.pieces-init
pieces-init g c =
    let pieces = c.args.self.now.pieces in
    record {
      fit = record { pieces = c.requires.fit.pieces; order = omega arith; within = omega arith };
      start = refl;
      end = refl;
      going = c.if-self.false;
      read = told_so_far_begins (unread_of pieces) c.clear.new.self pieces.taken (g.E.Edge.told c.args.edge.now) c.clear.ensures;
      heard = told_reads_begins c.args.self.now.ended (unread_of c.args.self.now.pieces) (outer_of (g.E.Edge.told c.args.edge.now) (g.E.Edge.heard c.args.edge.now));
      room = omega (arith, ap (λ (l : List ℕ). length l) c.clear.ensures);
      later = later_self (g.E.Edge.faults c.args.edge.now);
      extent = refl;
    }

pub returns-then-self-clause-heard : goal.returns-then-self-clause-heard
returns-then-self-clause-heard g c =
    told_reads_begins c.args.self.now.ended (unread_of c.args.self.now.pieces) (outer_of (g.E.Edge.told c.args.edge.now) (g.E.Edge.heard c.args.edge.now))

pub returns-in-Some-clause-reads : goal.returns-in-Some-clause-reads
returns-in-Some-clause-reads g c =
    let found = subst (λ (l : List ℕ). IsFirstByte (is_byte 10) l (Some c.in-Some.at)) c.unread.ensures c.in-Some.ensures in
    told_part_ends (seen_reader c.args.self.now) c.pieces.self c.end_line.new.self c.in-Some.at (g.E.Edge.told c.args.edge.now) (g.E.Edge.told c.pieces.edge)
    c.if-self.false c.pieces.invariant.going found c.pieces.invariant.fit.pieces.limit c.in_ok-end_line.ensures.ends c.pieces.invariant.read

pub returns-in-Some-clause-advances : goal.returns-in-Some-clause-advances
returns-in-Some-clause-advances g c =
    let found = subst (λ (l : List ℕ). IsFirstByte (is_byte 10) l (Some c.in-Some.at)) c.unread.ensures c.in-Some.ensures in
    λ more.
    line_advances (seen_reader c.args.self.now) c.pieces.self c.end_line.new.self c.in-Some.at
    c.if-self.false c.pieces.invariant.going found c.pieces.invariant.fit.pieces.limit c.in_ok-end_line.ensures.ends c.pieces.invariant.room

pub returns-in_err-take_more-clause-stops : goal.returns-in_err-take_more-clause-stops
returns-in_err-take_more-clause-stops g c =
    let failed : c.from_residual-in_err-take_more.result ≡ Err c.in_err-take_more.field-0.0 = search rules in
    let none = subst (λ (l : List ℕ). has_line_feed l ≡ false) c.unread.ensures (found_none c.unread.result.now c.in_default.ensures) in
    rw failed (
    told_part_stops (seen_reader c.args.self.now) (unread_of c.pieces.self.pieces) c.pieces.self.kept c.pieces.self.pieces.taken c.in_err-take_more.field-0.0
    (g.E.Edge.told c.args.edge.now) (g.E.Edge.told c.pieces.edge) (g.E.Edge.told c.take_more.new.edge)
    c.if-self.false c.requires.fit.pieces.limit c.pieces.invariant.fit.pieces.limit none c.pieces.invariant.read c.in_err-take_more.ensures.stops
    )

pub returns-in_err-take_more-clause-heard : goal.returns-in_err-take_more-clause-heard
returns-in_err-take_more-clause-heard g c =
    let none = subst (λ (l : List ℕ). has_line_feed l ≡ false) c.unread.ensures (found_none c.unread.result.now c.in_default.ensures) in
    told_reads_more c.args.self.now.ended (unread_of c.args.self.now.pieces) c.args.self.now.pieces.taken (unread_of c.pieces.self.pieces) c.pieces.self.kept c.pieces.self.pieces.taken
    (g.E.Edge.told c.args.edge.now) (g.E.Edge.told c.pieces.edge) (g.E.Edge.told c.take_more.new.edge)
    (g.E.Edge.heard c.args.edge.now) (g.E.Edge.heard c.pieces.edge) (g.E.Edge.heard c.take_more.new.edge)
    c.if-self.false none c.pieces.invariant.read c.pieces.invariant.heard c.in_err-take_more.ensures.heard

pub returns-then-not-branch-clause-heard : goal.returns-then-not-branch-clause-heard
returns-then-not-branch-clause-heard g c =
    let none = subst (λ (l : List ℕ). has_line_feed l ≡ false) c.unread.ensures (found_none c.unread.result.now c.in_default.ensures) in
    told_reads_more c.args.self.now.ended (unread_of c.args.self.now.pieces) c.args.self.now.pieces.taken (unread_of c.pieces.self.pieces) c.pieces.self.kept c.pieces.self.pieces.taken
    (g.E.Edge.told c.args.edge.now) (g.E.Edge.told c.pieces.edge) (g.E.Edge.told c.take_more.new.edge)
    (g.E.Edge.heard c.args.edge.now) (g.E.Edge.heard c.pieces.edge) (g.E.Edge.heard c.take_more.new.edge)
    c.if-self.false none c.pieces.invariant.read c.pieces.invariant.heard c.in_ok-take_more.ensures.heard

pub returns-then-not-branch-clause-reads : goal.returns-then-not-branch-clause-reads
returns-then-not-branch-clause-reads g c =
    let p = c.pieces.self.pieces in
    let q = c.take_more.new.self in
    let over : c.in_ok-take_more.field-0 ≡ false = search rules in
    let none = subst (λ (l : List ℕ). has_line_feed l ≡ false) c.unread.ensures (found_none c.unread.result.now c.in_default.ensures) in
    told_part_is_last (seen_reader c.args.self.now) _ p q c.pieces.self.kept c.extend.new.self
    (g.E.Edge.told c.args.edge.now) (g.E.Edge.told c.pieces.edge) (g.E.Edge.told c.take_more.new.edge)
    c.if-self.false none (c.in_ok-extend.ensures ∙ ap (fold kept_with c.pieces.self.kept) c.unread-in-pieces.ensures)
    c.in_ok-take_more.ensures.fit.limit refl (line_is_kept c.extend.new.self q.bytes.items c.pieces.self.start c.pieces.self.end c.pieces.invariant.start c.pieces.invariant.end) refl
    c.pieces.invariant.read (rw over at c.in_ok-take_more.ensures.takes)

pub returns-then-not-branch-clause-advances : goal.returns-then-not-branch-clause-advances
returns-then-not-branch-clause-advances g c =
    let p = c.pieces.self.pieces in
    let q = c.take_more.new.self in
    let n : AtHand = record { pieces = q; start = c.pieces.self.start; end = c.pieces.self.end; kept = c.extend.new.self; ended = true } in
    λ more.
    last_advances (seen_reader c.args.self.now) n c.if-self.false c.in_ok-take_more.ensures.fit.limit c.pieces.invariant.start c.pieces.invariant.end refl
    (room_so_far c.pieces.self.kept c.extend.new.self (unread_of p) (unread_of q) (length (unread_of c.args.self.now.pieces)) c.args.self.now.pieces.taken p.taken q.taken
    (c.in_ok-extend.ensures ∙ ap (fold kept_with c.pieces.self.kept) c.unread-in-pieces.ensures) c.in_ok-take_more.ensures.count c.pieces.invariant.room)

pub pieces-preserved : goal.pieces-preserved
pieces-preserved g c =
    let p = c.pieces.self.pieces in
    let q = c.take_more.new.self in
    let start = c.args.self.now.pieces in
    let none = subst (λ (l : List ℕ). has_line_feed l ≡ false) c.unread.ensures (found_none c.unread.result.now c.in_default.ensures) in
    let is = c.in_ok-extend.ensures ∙ ap (fold kept_with c.pieces.self.kept) c.unread-in-pieces.ensures in
    record {
      fit = record { pieces = c.in_ok-take_more.ensures.fit; order = c.pieces.invariant.fit.order; within = c.pieces.invariant.fit.within };
      start = c.pieces.invariant.start;
      end = c.pieces.invariant.end;
      going = c.pieces.invariant.going;
      read =
          told_so_far_more c.in_ok-take_more.field-0 (unread_of start) start.taken p q c.pieces.self.kept c.extend.new.self
          (g.E.Edge.told c.args.edge.now) (g.E.Edge.told c.pieces.edge) (g.E.Edge.told c.take_more.new.edge) none is c.pieces.invariant.read c.in_ok-take_more.ensures.takes;
      heard =
          told_reads_more c.args.self.now.ended (unread_of c.args.self.now.pieces) c.args.self.now.pieces.taken (unread_of c.pieces.self.pieces) c.pieces.self.kept c.pieces.self.pieces.taken
          (g.E.Edge.told c.args.edge.now) (g.E.Edge.told c.pieces.edge) (g.E.Edge.told c.take_more.new.edge)
          (g.E.Edge.heard c.args.edge.now) (g.E.Edge.heard c.pieces.edge) (g.E.Edge.heard c.take_more.new.edge)
          c.if-self.false none c.pieces.invariant.read c.pieces.invariant.heard c.in_ok-take_more.ensures.heard;
      room =
          room_so_far c.pieces.self.kept c.extend.new.self (unread_of p) (unread_of q) (length (unread_of start)) start.taken p.taken q.taken is c.in_ok-take_more.ensures.count
          c.pieces.invariant.room;
      later = later_then _ _ _ c.pieces.invariant.later c.in_ok-take_more.ensures.reading.later;
      extent = c.in_ok-take_more.ensures.kept ∙ c.pieces.invariant.extent;
    }
