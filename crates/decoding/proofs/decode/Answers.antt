use mathlib.Core.Path.{sym, ap, ◌∙◌}
use borrow.Author.Rules.{rules}
use Rattle.judging.specs.View.{fault_found}
use Rattle.decoding.proofs.Reading.{lent_bytes, decode_fault, decode_sound}
use Rattle.decoding.proofs.decode.Goals as goal

pub returns-in_err-check : goal.returns-in_err-check
returns-in_err-check c =
    let told = decode_fault _ _ _ (sym c.check.ensures ∙ ap fault_found c.in_err-check.was) in
    record {
      fault = search (rules, told, c.from_residual.ensures);
      whole = search (rules, told, c.from_residual.ensures);
      meaning = search (rules, told, c.from_residual.ensures);
    }

pub returns : goal.returns
returns c =
    let read =
    decode_sound
    _
    _
    (lent_bytes c.args.bytes.now c.type_inv.bytes)
    _
    (sym c.check.ensures ∙ ap fault_found c.in_ok-check.was)
    c.frame_in.ensures in
    record { fault = read.0; whole = read.1.0; meaning = read.1.1 }
