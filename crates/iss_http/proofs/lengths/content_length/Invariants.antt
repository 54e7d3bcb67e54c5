use Rattle.std.proofs.Common.{◌≡◌, drop}
use Rattle.std.specs.Prelude.{codes}
use Rattle.iss_http.specs.Lengths.{content_length, named}
use Rattle.iss_http.specs.Spans.{headers_at}
use Rattle.iss_http.proofs.LoneLengths.{more_length}
use Rattle.iss_http.proofs.lengths.content_length.Given as goal

-- the length by all headers is the length by the rest after the length so far
abbrev pub invariant-loop-header : goal.invariant-loop-header
invariant-loop-header l =
    content_length (headers_at l.bytes l.headers) ≡ more_length l.length (named (codes "content-length") (headers_at l.bytes (drop l.header-index l.headers)))
