use Rattle.std.proofs.Common.{◌≡◌, drop}
use Rattle.iss_http.specs.Lengths.{has}
use Rattle.iss_http.specs.Spans.{headers_at}
use Rattle.iss_http.proofs.heads.has_header.Given as goal

-- what there is among all headers is what there is among the rest
abbrev pub invariant-loop-header : goal.invariant-loop-header
invariant-loop-header l = has l.name (headers_at l.bytes l.headers) ≡ has l.name (headers_at l.bytes (drop l.header-index l.headers))
