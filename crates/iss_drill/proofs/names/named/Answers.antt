use Rattle.std.proofs.Common.{rules, ◌≡◌, ◌<◌, ◌^◌, decimal}
use Rattle.iss_drill.proofs.Named.{token_of_text}
use Rattle.iss_drill.proofs.names.named.Goals as goal

pub token_of-requires : goal.token_of-requires
token_of-requires c =
    let digits : c.as_bytes-digits.result.now ≡ decimal c.args.number = search rules in
    let small : c.args.number < 2 ^ 32 = search rules in
    token_of_text c.args.letter c.args.number _ c.as_bytes-digits.result.now c.requires small c.text_of-text.ensures digits
