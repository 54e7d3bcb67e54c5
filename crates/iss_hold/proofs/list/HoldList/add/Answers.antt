use Rattle.std.proofs.Common.{rules, ◌≡◌, List, [], ◌∷◌, ◌++◌, refl, sym, ap, ◌∙◌}
use Rattle.std.specs.Prelude.{Err}
use Rattle.iss_index.specs.Places.{place_of}
use Rattle.iss_hold.specs.declared.hold.Hold.{Hold}
use Rattle.iss_hold.specs.declared.list.HoldRow.{HoldRow}
use Rattle.iss_hold.specs.Holdings.{begun}
use Rattle.iss_hold.specs.Indexes.{names}
use Rattle.iss_hold.proofs.Named.{kept_grown, held_grown, kept_push, held_push, names_held}
use Rattle.iss_hold.proofs.list.HoldList.add.Goals as goal

pub invariant_of-self-in_err-row : goal.invariant_of-self-in_err-row
invariant_of-self-in_err-row c = kept_grown c.row_of.ensures.grown c.self.invariant refl c.in_ok-reserve.ensures.items

pub returns-in_err-row-clause-refused : goal.returns-in_err-row-clause-refused
returns-in_err-row-clause-refused c =
    let failed : c.from_residual-in_err-row.result ≡ Err c.in_err-row.field-0.0 = search rules in
    rw failed (held_grown c.row_of.ensures.grown c.self.invariant refl c.in_ok-reserve.ensures.items ∙ c.self.view_is)

pub add-requires : goal.add-requires
add-requires c =
    ap (place_of c.args.txn.now.token)
    (sym (names_held c.self.inside.names c.self.inside.tokens c.self.inside.rows.items c.self.invariant.even) ∙ ap names c.self.view_is)
    ∙ c.requires

pub invariant_of-self-in_err-add : goal.invariant_of-self-in_err-add
invariant_of-self-in_err-add c = kept_grown c.row_of.ensures.grown c.self.invariant c.in_err-add.ensures.refused c.in_ok-reserve.ensures.items

pub returns-in_err-add-clause-refused : goal.returns-in_err-add-clause-refused
returns-in_err-add-clause-refused c =
    let failed : c.from_residual-in_err-add.result ≡ Err c.in_err-add.field-0.0 = search rules in
    rw failed (held_grown c.row_of.ensures.grown c.self.invariant c.in_err-add.ensures.refused c.in_ok-reserve.ensures.items ∙ c.self.view_is)

pub invariant_of-self-2 : goal.invariant_of-self-2
invariant_of-self-2 c =
    let items : c.push.new.self.items ≡ c.self.inside.rows.items ++ c.in_ok-row.row ∷ [] =
    c.in_ok-push.ensures.items ∙ ap (λ (rows : List HoldRow). rows ++ c.in_ok-row.row ∷ []) c.in_ok-reserve.ensures.items in
    kept_push c.args.txn.now.token c.in_ok-row.row c.row_of.ensures.grown c.self.invariant c.in_ok-row.ensures.named c.in_ok-add.ensures.added items

pub returns-clause-added : goal.returns-clause-added
returns-clause-added c =
    let items : c.push.new.self.items ≡ c.self.inside.rows.items ++ c.in_ok-row.row ∷ [] =
    c.in_ok-push.ensures.items ∙ ap (λ (rows : List HoldRow). rows ++ c.in_ok-row.row ∷ []) c.in_ok-reserve.ensures.items in
    held_push c.self.inside.names c.row_of.new.names c.self.inside.tokens c.add.new.self c.self.inside.rows.items c.push.new.self.items
    c.args.txn.now.token c.in_ok-row.row (begun c.args.txn.now) c.row_of.ensures.grown c.self.invariant c.in_ok-row.ensures.begun c.in_ok-add.ensures.added items
    ∙ ap (λ (hs : List Hold). hs ++ begun c.args.txn.now ∷ []) c.self.view_is
