use Rattle.std.proofs.Common.{◌≡◌, ℕ, [], ◌∷◌, List, Vec, Global, length, take, Option, Some, None, sym, ap, subst, ◌∙◌, rules}
use Rattle.std.specs.Prelude.{option_map}
use Rattle.std.proofs.lemmas.List.{with_items_is}
use Rattle.iss_edge.specs.declared.outside.Answered.TheVariants.{Took}
use Rattle.iss_edge.specs.Outer.{outer_of, Adds}
use Rattle.iss_edge.specs.World.{Told}
use Rattle.iss_attend.specs.Attendances.{manner_of, at_rest, taking, replying}
use Rattle.iss_attend.specs.Held.{seen_held}
use Rattle.iss_attend.specs.Reading.{ReadsOn}
use Rattle.iss_attend.specs.Runs.{AttendsPart}
use Rattle.iss_attend.proofs.Causing.{anyway}
use Rattle.iss_attend.proofs.Going.{told_attends_then}
use Rattle.iss_attend.proofs.Taking.{told_client_failed, told_client_ended, told_took_part, told_request, told_replied}
use Rattle.iss_attend.proofs.held.Held.take_request.Goals as goal

pub returns-in_default-clause-attends : goal.returns-in_default-clause-attends
returns-in_default-clause-attends g c =
    let manner = manner_of g.A.AnswersBodies.after g.A.AnswersBodies.response in
    let s = c.args.self.now in
    let ch = c.args.ch in
    let x = (outer_of (g.E.Edge.told c.args.edge.now) (g.E.Edge.heard c.args.edge.now)) in
    let y = (outer_of (g.E.Edge.told c.take_piece.new.edge) (g.E.Edge.heard c.take_piece.new.edge)) in
    let told : Told (Adds [] (Took c.args.ch None ∷ [])) (outer_of (g.E.Edge.told c.args.edge.now) (g.E.Edge.heard c.args.edge.now)) (outer_of (g.E.Edge.told c.take_piece.new.edge) (g.E.Edge.heard c.take_piece.new.edge)) = search rules in
    told_client_failed manner s.answers s.turns s.clients ch (seen_held c.lose.new.self) x y (outer_of (g.E.Edge.told c.lose.new.edge) (g.E.Edge.heard c.lose.new.edge)) c.lose.ensures.now told c.lose.ensures.told

pub returns-then-count-eq0-clause-attends : goal.returns-then-count-eq0-clause-attends
returns-then-count-eq0-clause-attends g c =
    let manner = manner_of g.A.AnswersBodies.after g.A.AnswersBodies.response in
    let s = c.args.self.now in
    let ch = c.args.ch in
    let x = (outer_of (g.E.Edge.told c.args.edge.now) (g.E.Edge.heard c.args.edge.now)) in
    let y = (outer_of (g.E.Edge.told c.take_piece.new.edge) (g.E.Edge.heard c.take_piece.new.edge)) in
    let none : c.in-Some.count ≡ 0 = search rules in
    told_client_ended manner s.answers s.turns s.clients ch (seen_held c.lose-then-count-eq0.new.self) c.take_piece.new.buffer c.in-Some.count x y
    (outer_of (g.E.Edge.told c.lose-then-count-eq0.new.edge) (g.E.Edge.heard c.lose-then-count-eq0.new.edge)) none c.lose-then-count-eq0.ensures.now c.in-Some.ensures.told c.lose-then-count-eq0.ensures.told

pub returns-in_err-read-clause-part : goal.returns-in_err-read-clause-part
returns-in_err-read-clause-part g c =
    let manner = manner_of g.A.AnswersBodies.after g.A.AnswersBodies.response in
    let s = c.args.self.now in
    let ch = c.args.ch in
    let x = (outer_of (g.E.Edge.told c.args.edge.now) (g.E.Edge.heard c.args.edge.now)) in
    let y = (outer_of (g.E.Edge.told c.take_piece.new.edge) (g.E.Edge.heard c.take_piece.new.edge)) in
    anyway c.from_residual.result (Told (AttendsPart manner (taking s.answers s.turns s.clients ch)) x y)
    (told_took_part manner s.answers s.turns s.clients ch c.take_piece.new.buffer c.in-Some.count x y c.take_piece.ensures.room c.in-Some.ensures.bound c.in-Some.ensures.told)

pub returns-in-None-clause-attends : goal.returns-in-None-clause-attends
returns-in-None-clause-attends g c =
    let manner = manner_of g.A.AnswersBodies.after g.A.AnswersBodies.response in
    let s = c.args.self.now in
    let ch = c.args.ch in
    let x = (outer_of (g.E.Edge.told c.args.edge.now) (g.E.Edge.heard c.args.edge.now)) in
    let y = (outer_of (g.E.Edge.told c.take_piece.new.edge) (g.E.Edge.heard c.take_piece.new.edge)) in
    let some : c.in-Some.count ≡ 0 → ⊥ = search rules in
    let there : c.deref.result.now ≡ c.take_piece.new.buffer =
    c.deref.ensures.value
    ∙ with_items_is c.args.self.now.buffer c.take_piece.new.buffer (c.take_piece.ensures.room ∙ sym c.requires.buffer ∙ ap (λ (l : List ℕ). length l) (sym c.deref_mut.ensures.value) ∙ c.deref_mut.ensures.len) in
    let piece : List ℕ = take c.in-Some.count c.deref.result.now in
    let now = c.read.new.answers in
    let after = c.read.new.clients in
    let reads = subst (λ (r : Option (Vec ℕ Global)). ReadsOn manner ch piece s.clients after s.answers now (option_map (λ text. text.items) r)) c.in-None.is c.in_ok-read.ensures.reads in
    let led = told_request manner s.answers s.turns s.clients ch now after None c.take_piece.new.buffer c.in-Some.count piece x y c.take_piece.ensures.room c.in-Some.ensures.bound some (ap (λ (l : List ℕ). take c.in-Some.count l) there) reads c.in-Some.ensures.told in
    led

pub returns-in-Some-2-clause-attends : goal.returns-in-Some-2-clause-attends
returns-in-Some-2-clause-attends g c =
    let manner = manner_of g.A.AnswersBodies.after g.A.AnswersBodies.response in
    let s = c.args.self.now in
    let ch = c.args.ch in
    let x = (outer_of (g.E.Edge.told c.args.edge.now) (g.E.Edge.heard c.args.edge.now)) in
    let y = (outer_of (g.E.Edge.told c.take_piece.new.edge) (g.E.Edge.heard c.take_piece.new.edge)) in
    let some : c.in-Some.count ≡ 0 → ⊥ = search rules in
    let there : c.deref.result.now ≡ c.take_piece.new.buffer =
    c.deref.ensures.value
    ∙ with_items_is c.args.self.now.buffer c.take_piece.new.buffer (c.take_piece.ensures.room ∙ sym c.requires.buffer ∙ ap (λ (l : List ℕ). length l) (sym c.deref_mut.ensures.value) ∙ c.deref_mut.ensures.len) in
    let piece : List ℕ = take c.in-Some.count c.deref.result.now in
    let now = c.read.new.answers in
    let after = c.read.new.clients in
    let reads = subst (λ (r : Option (Vec ℕ Global)). ReadsOn manner ch piece s.clients after s.answers now (option_map (λ text. text.items) r)) c.in-Some-2.is c.in_ok-read.ensures.reads in
    let text = c.in-Some-2.text.items in
    let led = told_request manner s.answers s.turns s.clients ch now after (Some text) c.take_piece.new.buffer c.in-Some.count piece x y c.take_piece.ensures.room c.in-Some.ensures.bound some (ap (λ (l : List ℕ). take c.in-Some.count l) there) reads c.in-Some.ensures.told in
    let z = (outer_of (g.E.Edge.told c.reply.new.edge) (g.E.Edge.heard c.reply.new.edge)) in
    told_attends_then manner (taking s.answers s.turns s.clients ch) (replying now s.turns after ch text) (at_rest now s.turns after) x y z led
    (told_replied manner now s.turns after ch text c.deref-in-Some-2.result.now y z c.deref-in-Some-2.ensures.value c.reply.ensures.replies)
