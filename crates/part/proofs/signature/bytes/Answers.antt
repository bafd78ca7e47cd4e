-- `part::signature::bytes` meets its contract: the five pieces, put one after the other, are the signature.
-- Assumes nothing.
use mathlib.Core.Path.{◌∙◌, ◌≡◌, ap, refl, sym}
use lib.ListN.{length}
use borrow.Author.Rules.{rules}
use Rattle.part.proofs.LawsSignature.{signature-is}
use Rattle.part.specs.Signature.{last_bytes}
use Rattle.part.proofs.signature.bytes.Goals as goal

pub slice_bounds-put-end-10 : goal.slice_bounds-put-end-10
slice_bounds-put-end-10 c =
    let version-long : length c.args.part.version ≡ 3 = search rules in
    sym version-long

pub returns : goal.returns
returns c =
    let device-long : length c.args.part.device ≡ 3 = search rules in
    let name-long : length c.args.part.name ≡ 10 = search rules in
    let version-long : length c.args.part.version ≡ 3 = search rules in
    let args = c.args in
    let start = c.before.before.before.before.before.before.before.before.before.before.before.before.before.before.before.before.before.before.before.before.before.before.before.before.before.before.before in
    let last = c.last in
    let last-bytes = c.last_bytes-code in
    let last2 = c.last-2 in
    let last-bytes2 = c.last_bytes-extra in
    let put = c.put in
    let put2 = c.put-2 in
    let put3 = c.put-3 in
    let put4 = c.put-4 in
    signature-is args.part _ _ _ _ _ _ _ _ _ _ _ _ _ put.ensures put2.ensures put3.ensures put4.ensures c.put-5.ensures (last-bytes.ensures ∙ ap last_bytes last.ensures)
    (last-bytes2.ensures ∙ ap last_bytes last2.ensures) refl device-long name-long version-long
