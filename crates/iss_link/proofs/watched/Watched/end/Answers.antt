use Rattle.std.proofs.Common.{List, ap, sym, ◌∙◌, ℕ, true}
use Rattle.iss_http.specs.Answers.{answer_read}
use Rattle.iss_session.specs.Links.{Link}
use Rattle.iss_link.specs.Values.{bytes_of}
use Rattle.iss_http.proofs.Endings.{nothing_ended}
use Rattle.iss_link.proofs.watched.Watched.end.Goals as goal

pub returns-in-None-clause-read : goal.returns-in-None-clause-read
returns-in-None-clause-read c =
    ap (λ (bytes : List ℕ). answer_read bytes true) (ap (λ (l : Link). l.bytes) (sym c.self.view_is) ∙ ap bytes_of c.in-None.is) ∙ nothing_ended
