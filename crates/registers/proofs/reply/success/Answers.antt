use Rattle.std.proofs.Common.{ℕ, suc, ◌+◌, ◌≡◌, ◌∙◌, List, [], ◌∷◌, ◌++◌, length, length-append, replicate, arith}
use Rattle.std.proofs.Math.Seq.{sets-eq}
use Rattle.packet.specs.Packet.{checksum}
use Rattle.packet.specs.Reply.{success}
use Rattle.base.specs.Lent.{overwritten}
use Rattle.base.proofs.Lists.{overwritten_snoc}
use Rattle.bus.specs.Commands.{reply_limit}
use Rattle.registers.proofs.reply.success.Goals as goal

pub returns : goal.returns
unfolding success
returns c =
    let bytes = c.args.bytes.now in
    let head : List ℕ = 0x01 ∷ length bytes ∷ bytes in
    let two_more : 2 + length bytes ≡ suc (suc (length bytes)) = omega arith in
    let payload : c.store.new.out ≡ overwritten head (replicate reply_limit 0) =
    c.store.ensures ∙ rw (sets-eq bytes (0x01 ∷ length bytes ∷ replicate 9 0) 2 (omega arith), two_more) in
    let place : length bytes + 2 ≡ length head = omega arith in
    let count : length bytes + 3 ≡ length (head ++ checksum head ∷ []) = rw length-append (omega arith) in
    rw (place, count, payload, c.checksum.ensures, overwritten_snoc head (replicate reply_limit 0) (checksum head) (omega arith))
