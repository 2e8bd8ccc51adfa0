-- Settlement: what safety gives of the counts, and of the settings where the office says settled.
use Prim.Native.Nat.{ℕ, ◌≤◌}
use native.Mathlib.Omega.{arith}
use mathlib.Core.Path.{◌≡◌, refl, sym, ap, ◌∙◌}
use mathlib.Core.Bool.{Bool, true, false, cond}
use mathlib.Core.Option.{some}
use lib.ListN.{length, take}
use lib.Seq.{take-take}
use lib.Dec.{eqb}
use borrow.Author.Tests.{eqb-true}
use Rattle.settings.specs.declared.settings.Settings.{Settings}
use Rattle.frame.specs.Frame.{welcome, ack}
use Rattle.session.specs.declared.Progress.TheVariants.{Settled, Waiting}
use Rattle.session.specs.Calls.{Log}
use Rattle.session.specs.History.{Stage, unopened, awaiting, live, ended, is_live, BoxHistory, OfficeHistory, History, settings_after, orders, progress_at, progress}
use Rattle.session.proofs.Invariant.{Reply, reply_welcome, reply_ack, Safe, opened_by}
use Rattle.session.proofs.Tools.{Prefix, prefix_whole}

reply_count : {b : BoxHistory} {s k : ℕ} → Reply b (ack s k) → k ≤ length (b.taken s)
reply_count (reply_ack count) = count

reply_settings : {b : BoxHistory} {s : ℕ} {σ : Settings} → Reply b (welcome s σ) → σ ≡ b.opened s
reply_settings (reply_welcome _ settings) = settings

-- settled only while live, with all orders confirmed
settled_live : (g : Stage) (o : OfficeHistory) → progress_at g o ≡ Settled → (is_live g ≡ true) × (o.confirmed ≡ length (orders o))
settled_live unopened o e = let z : ◌≡◌ {A = ℕ} 0 1 = cc in absurd (omega arith)
settled_live awaiting o e = let z : ◌≡◌ {A = ℕ} 0 1 = cc in absurd (omega arith)
settled_live ended o e = let z : ◌≡◌ {A = ℕ} 0 1 = cc in absurd (omega arith)
settled_live live o e = by_cases (eqb o.confirmed (length (orders o))) refl e
  where
    by_cases : (t : Bool) → eqb o.confirmed (length (orders o)) ≡ t → cond t Settled Waiting ≡ Settled →
        (true ≡ true) × (o.confirmed ≡ length (orders o))
    by_cases true equal _ = (refl, eqb-true _ _ equal)
    by_cases false _ e = let z : ◌≡◌ {A = ℕ} 0 1 = cc in absurd (omega arith)

module _ (h : History) (l : Log) (safe : Safe h l) (i : ℕ) where
  abbrev o : OfficeHistory
  o = h.offices i

  pub confirmed_at_most_taken : o.confirmed ≤ length (h.box.taken o.session)
  confirmed_at_most_taken = reply_count (safe.offices i).confirmed

  own_prefix : (o.stage ≡ unopened → ⊥) → Prefix (h.box.taken o.session) (orders o)
  own_prefix opened = ((safe.offices i).sessions o.session).prefix ((safe.offices i).own opened)

  pub confirmed_were_taken : (o.stage ≡ unopened → ⊥) → take o.confirmed (h.box.taken o.session) ≡ take o.confirmed (orders o)
  confirmed_were_taken opened =
      ap (take o.confirmed) (own_prefix opened) ∙ take-take o.confirmed (length (h.box.taken o.session)) (orders o) confirmed_at_most_taken

  -- both are the settings told by WELCOME after the same changes
  pub settled_settings : progress o ≡ Settled → h.box.session ≡ some o.session → o.settings ≡ h.box.settings
  settled_settings settled same_session =
      let (lives, all_confirmed) = settled_live o.stage o settled in
      let office = (safe.offices i).while_live lives in
      let all_taken : h.box.taken o.session ≡ orders o =
      prefix_whole _ _ (own_prefix (opened_by is_live refl o.stage lives)) (omega (arith, confirmed_at_most_taken)) in
      office.followed ∙ (λ j. settings_after (reply_settings office.reply j) (sym all_taken j)) ∙ sym (safe.box.followed o.session same_session)
