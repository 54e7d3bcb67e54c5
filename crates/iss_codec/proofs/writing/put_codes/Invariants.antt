use Rattle.std.proofs.Common.{◌≡◌, ◌++◌, take}
use Rattle.std.specs.List.{flat_map}
use Rattle.iss_model.specs.texts.Spelling.{mcc_bytes}
use Rattle.iss_codec.proofs.writing.put_codes.Given as goal

abbrev pub invariant-loop-code : goal.invariant-loop-code
invariant-loop-code l = l.out.items ≡ l.fn.out.items ++ flat_map mcc_bytes (take l.code-index l.codes)
