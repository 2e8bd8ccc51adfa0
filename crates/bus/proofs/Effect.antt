-- When settings change: one exchange sets a named status bit, or completes a packet that is performed; and a performed
-- packet writes its register exactly where it passes every check.
use Prim.Native.Nat.{ℕ, ◌/◌, ◌<◌}
use native.Mathlib.Omega.{arith}
use mathlib.Core.Path.{◌≡◌, refl, sym, ◌∙◌}
use Rattle.std.specs.Prelude.{Option as StdOption, Some, None}
use mathlib.Core.Bool.{true, false, and-false}
use mathlib.Core.List.{List, [], ◌∷◌}
use mathlib.Core.Logic.{◌⊎◌, inl, inr}
use lib.ListN.{length}
use lib.Dec.{eqb, ltb}
use borrow.Author.Tests.{eqb-true, eqb-false, eq-eqb, ne_eqb, le-leb, lt-leb, ltb-true, ltb-false}
use Rattle.std.proofs.lemmas.Bool.{cond_both}
use Rattle.packet.specs.declared.writer.Access.{Access}
use Rattle.packet.specs.declared.writer.Access.TheVariants.{Write, Read}
use Rattle.bus.specs.declared.Phase.{Phase}
use Rattle.bus.specs.declared.Phase.TheVariants.{Idle, Command, Length, Data, Checksum}
use Rattle.bus.specs.declared.Controller.{Controller}
use Rattle.bus.specs.declared.command.Register.TheVariants.{Bezel}
use Rattle.bus.specs.declared.command.Ways.TheVariants.{ReadWrite}
use Rattle.bus.specs.declared.command.ModeRight.TheVariants.{MasterOn}
use Rattle.bus.specs.declared.command.CommandRow.{CommandRow}
use Rattle.bus.specs.declared.command.Performed.{Performed}
use Rattle.settings.specs.declared.settings.Settings.{Settings}
use Rattle.settings.specs.declared.settings.Flag.{Flag}
use Rattle.settings.specs.declared.settings.Flag.TheVariants.{Incomplete, NotAvailable, InvalidCommand, OutOfRange, EscapeSeen, WrongLength, BytesIgnored, WrongChecksum}
use Rattle.settings.specs.Settings.{flagged, cleared}
use Rattle.bus.specs.Commands.{command_row, lookup, access, offers, request_length, accepts, written, locked, write_register, execute, perform_offered, perform_found, perform_looked_up, perform}
use Rattle.bus.specs.Bus.{is_idle, performed, judge, feed_at, inside, outside, start, after, exchange}
use Rattle.bus.specs.CommandTheorems.{
  Known,
  Available,
  Requested,
  CommandEffect,
  unknown_id,
  no_such_way,
  not_available,
  wrong_length,
  out_of_range,
  was_written,
  was_read,
  PerformOutcome,
  PerformWrites,
  PerformReads,
  SignsJudged,
}
use Rattle.bus.specs.BusTheorems.{
  value,
  Taken,
  OfPacket,
  Effect,
  starts_packet,
  cuts_packet,
  dummy,
  zero_outside,
  ignored,
  opens_escape,
  collected,
  wrong_checksum,
  packet_performed,
  EffectOnly,
}

-- ---- a packet that is performed

module _ (σ : Settings) (k : ℕ) (d : List ℕ) where
  abbrev Comes : Performed → Type 0
  Comes = CommandEffect σ k d

  execute_outcome : (row : CommandRow) (way : Access) → Requested σ k d row way → Comes (execute σ row way d)
  unfolding write_register
  execute_outcome row Write passed = cond_both (accepts row.register d) _ _ Comes (λ e. was_written passed e) (λ e. out_of_range passed e)
  execute_outcome row Read passed = was_read passed

  found_outcome : (row : CommandRow) (way : Access) → Known k row way → Comes (perform_found σ row way d)
  unfolding perform_found perform_offered
  found_outcome row way known =
      cond_both (offers row way) _ _ Comes
      (λ o. cond_both (locked σ row way) _ _ Comes (λ l. not_available known o l)
      (λ l. let available : Available σ k row way = record { known = known; offered = o; unlocked = l } in
      cond_both (eqb (length d) (request_length row way)) _ _ Comes (λ e. execute_outcome row way (record { available = available; whole = eqb-true _ _ e }))
      (λ e. wrong_length available (eqb-false _ _ e))))
      (λ o. no_such_way known o)

  looked_up_outcome : (l : StdOption CommandRow) → lookup (k / 2) ≡ l → Comes (perform_looked_up l σ k d)
  looked_up_outcome (Some row) e = found_outcome row (access k) (record { found = e; asked = refl })
  looked_up_outcome None e = unknown_id e

pub perform_outcome : PerformOutcome
perform_outcome σ k d = looked_up_outcome σ k d (lookup (k / 2)) refl

-- a command that passes the checks up to its length is executed
executed : (σ : Settings) (k : ℕ) (d : List ℕ) (row : CommandRow) (way : Access) → Requested σ k d row way → perform σ k d ≡ execute σ row way d
unfolding perform_found perform_offered
executed σ k d row way passed =
    let available = passed.available in
    rw (available.known.found, available.known.asked) (simp (available.offered, available.unlocked, eq-eqb _ _ passed.whole))

pub perform_writes : PerformWrites
unfolding write_register
perform_writes σ k d row passed fits = executed σ k d row Write passed ∙ rw fits

pub perform_reads : PerformReads
perform_reads σ k d row passed = executed σ k d row Read passed

pub signs_judged : SignsJudged
unfolding lookup access write_register
signs_judged σ h_low h_high h_sign v_low v_high v_sign on =
    let available : Available σ 0x50 bezel Write = record { known = record { found = refl; asked = refl }; offered = refl; unlocked = ne_eqb _ _ on } in
    let passed : Requested σ 0x50 d bezel Write = record { available = available; whole = refl } in
    (λ h v. perform_writes σ 0x50 d bezel passed (simp (le-leb h_sign 1 h, le-leb v_sign 1 v)), λ above. executed σ 0x50 d bezel Write passed ∙ rw (one_above above))
  where
    bezel : CommandRow
    bezel = command_row 0x28 Bezel ReadWrite 6 MasterOn

    d : List ℕ
    d = h_low ∷ h_high ∷ h_sign ∷ v_low ∷ v_high ∷ v_sign ∷ []

    one_above : (1 < h_sign) ⊎ (1 < v_sign) → accepts Bezel d ≡ false
    one_above (inl h) = simp (lt-leb h_sign 1 h)
    one_above (inr v) = simp (lt-leb v_sign 1 v, and-false)

-- what flags, accepted writes and clearing keep, every command keeps
pub command_keeps : (P : Settings → Type 0) (σ : Settings) (k : ℕ) (d : List ℕ) → P σ → P (cleared σ) → ((flag : Flag) → P (flagged σ flag)) →
    ((row : CommandRow) → Requested σ k d row Write → accepts row.register d ≡ true → P (written σ row.register d)) → P (perform σ k d).settings
command_keeps P σ k d same none_set flag_set register_written = by_cases (perform_outcome σ k d)
  where
    by_cases : {end : Performed} → CommandEffect σ k d end → P end.settings
    by_cases (unknown_id _) = flag_set InvalidCommand
    by_cases (no_such_way _ _) = flag_set InvalidCommand
    by_cases (not_available _ _ _) = flag_set NotAvailable
    by_cases (wrong_length _ _) = flag_set WrongLength
    by_cases (out_of_range _ _) = flag_set OutOfRange
    by_cases (was_written {row} passed fits) = register_written row passed fits
    by_cases (was_read {row} _) = cond_both (eqb row.id 0x33) _ _ P (λ _. none_set) (λ _. same)

-- ---- one exchange

apart : ◌≡◌ {A = ℕ} 0 1 → ⊥
apart e = omega arith

module _ (c : Controller) (b : ℕ) where
  abbrev Leaves : Controller → Type 0
  Leaves x = Effect c b x.settings

  start_effect : b ≡ 0xA5 → Leaves (start c)
  unfolding start
  start_effect e = cond_both (is_idle c.phase) _ _ Leaves (starts_packet e) (cuts_packet e)

  judge_effect : (v : ℕ) → OfPacket c b → c.phase ≡ Checksum → value c b ≡ v → Leaves (judge c v)
  unfolding judge
  judge_effect v here at is =
      cond_both (eqb v c.packet.sum) _ _ Leaves (λ f. packet_performed here at (is ∙ eqb-true _ _ f))
      (λ f. wrong_checksum here at (λ q. eqb-false _ _ f (sym is ∙ q)))

  feed_effect : (p : Phase) (v : ℕ) → OfPacket c b → c.phase ≡ p → value c b ≡ v → Leaves (feed_at p c v)
  unfolding feed_at
  feed_effect Idle v here at is = collected here (λ q. apart cc)
  feed_effect Command v here at is = collected here (λ q. apart cc)
  feed_effect Length v here at is = collected here (λ q. apart cc)
  feed_effect (Data left) v here at is = collected here (λ q. apart cc)
  feed_effect Checksum v here at is = judge_effect v here at is

  inside_effect : Taken c b → is_idle c.phase ≡ false → Leaves (inside c b)
  unfolding inside
  inside_effect taken inside =
      cond_both c.escape _ _ Leaves
      (λ e. feed_effect c.phase _ (record { taken = taken; inside = inside; no_escape = λ q _. apart cc }) refl (rw e))
      (λ e. cond_both (eqb b 0x5A) _ _ Leaves (λ f. opens_escape taken inside e (eqb-true _ _ f))
      (λ f. feed_effect c.phase b (record { taken = taken; inside = inside; no_escape = λ _. eqb-false _ _ f }) refl (rw e)))

pub effect_only : EffectOnly
unfolding after outside
effect_only c b =
    let L = Leaves c b in
    cond_both (eqb b 0xA5) _ _ L (λ e. start_effect c b (eqb-true _ _ e))
    (λ e. let no_start = eqb-false b 0xA5 e in
    cond_both (ltb c.reply.sent c.reply.len) _ _ L (λ f. dummy no_start (ltb-true _ _ f))
    (λ f. let taken : Taken c b = record { no_start = no_start; all_sent = ltb-false _ _ f } in
    cond_both (is_idle c.phase) _ _ L
    (λ g. cond_both (eqb b 0x00) _ _ L (λ h. zero_outside taken g (eqb-true _ _ h)) (λ h. ignored taken g (eqb-false _ _ h)))
    (λ g. inside_effect c b taken g)))

-- what flags and every command keep, an exchange keeps
pub exchange_keeps : (P : Settings → Type 0) (c : Controller) (b : ℕ) → P c.settings → ((flag : Flag) → P (flagged c.settings flag)) →
    P (performed c.packet c.settings).settings → P (exchange c b).controller.settings
exchange_keeps P c b same flag_set command_performed = by_cases (effect_only c b)
  where
    by_cases : {end : Settings} → Effect c b end → P end
    by_cases (starts_packet _ _) = same
    by_cases (cuts_packet _ _) = flag_set Incomplete
    by_cases (dummy _ _) = same
    by_cases (zero_outside _ _ _) = same
    by_cases (ignored _ _ _) = flag_set BytesIgnored
    by_cases (opens_escape _ _ _ _) = flag_set EscapeSeen
    by_cases (collected _ _) = same
    by_cases (wrong_checksum _ _ _) = flag_set WrongChecksum
    by_cases (packet_performed _ _ _) = command_performed
