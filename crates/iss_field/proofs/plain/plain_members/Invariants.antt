use Rattle.std.proofs.Common.{◌≡◌, ◌++◌, true}
use Rattle.std.specs.Str.{IsUtf8}
use Rattle.json.specs.Value.{members_view}
use Rattle.iss_field.specs.PlainObjects.{ArePlain, opener, spelled}
use Rattle.iss_field.proofs.PlainRead.{is_none}
use Rattle.iss_field.proofs.plain.plain_members.Given as goal

abbrev pub invariant-loop : goal.invariant-loop
invariant-loop l =
    (l.text ≡ spelled true (members_view l.members.items) ++ l.rest) × (l.opener ≡ opener (is_none (members_view l.members.items))) × ArePlain (members_view l.members.items) × IsUtf8 l.rest
