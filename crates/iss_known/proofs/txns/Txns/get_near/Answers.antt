use Rattle.std.proofs.Common.{◌<◌, length, ◌∙◌, arith, ap, option_map}
use Rattle.iss_index.specs.Places.{place_of}
use Rattle.iss_index.proofs.Placed.{found-within, found-named, none-named}
use Rattle.iss_model.specs.rules.Activity.{TxnNow}
use Rattle.iss_known.proofs.txns.Txns.get_near.Goals as goal

pub returns-in_err-place : goal.returns-in_err-place
returns-in_err-place c =
    rw (← c.self.view_is)
    (ap (option_map (λ found. found.now)) c.from_residual.ensures
    ∙ none-named (λ (t : TxnNow). t.txn.token) c.self.inside.list.items c.args.token.now
    (c.in_err-place.ensures.value ∙ ap (place_of c.args.token.now) c.self.invariant))

pub index-requires : goal.index-requires
index-requires c =
    let below : c.in_ok-place.place < length c.self.inside.list.items =
    found-within (λ (t : TxnNow). t.txn.token) c.self.inside.list.items c.args.token.now c.in_ok-place.place
    (c.in_ok-place.ensures.value ∙ ap (place_of c.args.token.now) c.self.invariant)
    in omega (arith, below, c.self.inside.list.ok.0)

pub returns : goal.returns
returns c =
    rw (← c.self.view_is)
    (found-named (λ (t : TxnNow). t.txn.token) c.self.inside.list.items c.args.token.now c.in_ok-place.place c.index.result.now
    (c.in_ok-place.ensures.value ∙ ap (place_of c.args.token.now) c.self.invariant) c.index.ensures)
