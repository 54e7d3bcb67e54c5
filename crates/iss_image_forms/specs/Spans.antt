-- Spans whose numbers have 64 bits. A definition's numbers have no bound, and a program's have 64 bits: the Rust type says it.
use Rattle.std.specs.Prelude.{Bool, true, List}
use Rattle.std.specs.List.{list_all}
use Rattle.iss_model.specs.declared.counted.Counter.{Counter}
use Rattle.iss_model.specs.declared.counted.Span.{Span}
use Rattle.iss_model.specs.declared.counted.Span.TheVariants as span
use Rattle.iss_image_lists.specs.Forms.{is_signed}

-- if a span is a number, that has 64 bits
abbrev pub is_span_of_64_bits : Span → Bool
is_span_of_64_bits (span.Number n) = is_signed n
is_span_of_64_bits (span.Txn token) = true

-- the span of each counter is so, as the Rust type of spans says
abbrev pub are_spans_of_64_bits : List Counter → Bool
are_spans_of_64_bits counters = list_all (λ k. is_span_of_64_bits k.span) counters
