use Rattle.std.proofs.Common.{◌≡◌, ◌++◌, ◌∷◌, [], rules}
use Rattle.iss_edge.specs.declared.outside.Script.TheVariants.{Client, More}
use Rattle.iss_edge.proofs.Numbers.{client_unused}
use Rattle.iss_edge.proofs.Pieces.{more_came}
use Rattle.iss_edge.proofs.memory.network.Network.wait.Goals as goal

pub returns-in_ok-push-in-Some-Client-clause-unused : goal.returns-in_ok-push-in-Some-Client-clause-unused
returns-in_ok-push-in-Some-Client-clause-unused c =
    let n = c.self.inside in
    let ch = c.in-Some-Client.ch in
    let items = c.pop_front.new.self.items in
    let next : n.script.items ≡ Client ch ∷ items = search rules in
    rw (← c.self.view_is) (client_unused ch n.clients.items n.dialled.items n.ready n.script.items items n.dials c.self.invariant.0 next c.self.invariant.2)

pub returns-in_ok-push-in-Some-More-clause-left : goal.returns-in_ok-push-in-Some-More-clause-left
returns-in_ok-push-in-Some-More-clause-left c =
    let n = c.self.inside in
    let ch = c.in-Some-More.ch in
    let bytes = c.in-Some-More.bytes in
    let items = c.pop_front.new.self.items in
    let next : n.script.items ≡ More ch bytes ∷ items = search rules in
    let pushed : c.push-in-Some-More.new.self.items ≡ n.pieces.items ++ record { ch = ch; rest = bytes } ∷ [] = search rules in
    rw (← c.self.view_is) (λ on. more_came n.pieces.items c.push-in-Some-More.new.self.items n.script.items items ch bytes on pushed next)
