-- Status bits that document 01 does not name stay 0.
use Prim.Native.Nat.{ℕ, ◌^◌, ◌<◌}
use native.Mathlib.Nat.{zero-div, zero-mod}
use mathlib.Core.Path.{refl, sym, subst}
use mathlib.Core.List.Memᴰ
use mathlib.Core.List.{List, [], ◌∷◌, Memᴰ}
use lib.Dec.{lit<}
use borrow.Author.Tests.{ne_eqb}
use Rattle.settings.specs.declared.settings.Settings.{Settings}
use Rattle.settings.specs.declared.settings.StatusBytes.{StatusBytes}
use Rattle.settings.specs.declared.settings.Flag.{Flag}
use Rattle.settings.specs.declared.settings.Flag.TheVariants.{
  Incomplete,
  NotAvailable,
  InvalidCommand,
  OutOfRange,
  EscapeSeen,
  WrongLength,
  BytesIgnored,
  WrongChecksum,
}
use Rattle.settings.specs.Settings.{set_bit, in_first, in_second, in_fourth, no_flags, flagged}
use Rattle.settings.specs.Range.{StatusHeld}
use Rattle.settings.proofs.StatusLaws.{set_bit_sets}
use Rattle.bus.specs.declared.Controller.{Controller}
use Rattle.bus.specs.Commands.{perform}
use Rattle.bus.specs.Bus.{fresh, exchange}
use Rattle.bus.specs.Run.{run}
use Rattle.bus.specs.CommandTheorems.{StatusFits}
use Rattle.bus.specs.BusTheorems.{Only, OnlyNamed, RestStayZero}
use Rattle.bus.proofs.StatusBits.{marked_alike}
use Rattle.bus.proofs.CommandTable.{no_flags_fit, written_status}
use Rattle.bus.proofs.Effect.{command_keeps, exchange_keeps}

-- setting a bit of the list leaves the rest
only_set : (bits : List ℕ) (b k : ℕ) → b < 256 → k < 8 → Memᴰ k bits → Only bits b → Only bits (set_bit b (2 ^ k))
only_set bits b k fits h listed only j below other =
    rw (set_bit_sets b k j fits h below, ne_eqb j k (λ e. other (Memᴰ.cast e listed))) (only j below other)

record Safe (s : StatusBytes) : Type 0 where
  fits : StatusHeld s
  named : OnlyNamed s

module _ (σ : Settings) (safe : Safe σ.status) where
  abbrev s : StatusBytes
  s = σ.status

  in_first_named : (k : ℕ) → k < 8 → Memᴰ k (3 ∷ 2 ∷ 0 ∷ []) → OnlyNamed (in_first s (2 ^ k))
  in_first_named k h listed =
      let named = safe.named in
      record { first = only_set _ s.first k safe.fits.first h listed named.first; second = named.second; third = named.third; fourth = named.fourth }

  in_second_named : (k : ℕ) → k < 8 → Memᴰ k (5 ∷ []) → OnlyNamed (in_second s (2 ^ k))
  in_second_named k h listed =
      let named = safe.named in
      record { first = named.first; second = only_set _ s.second k safe.fits.second h listed named.second; third = named.third; fourth = named.fourth }

  in_fourth_named : (k : ℕ) → k < 8 → Memᴰ k (7 ∷ 6 ∷ 5 ∷ 4 ∷ []) → OnlyNamed (in_fourth s (2 ^ k))
  in_fourth_named k h listed =
      let named = safe.named in
      record { first = named.first; second = named.second; third = named.third; fourth = only_set _ s.fourth k safe.fits.fourth h listed named.fourth }

  flagged_named : (flag : Flag) → OnlyNamed (flagged σ flag).status
  unfolding flagged
  flagged_named Incomplete = in_first_named 3 (lit< tt) (Memᴰ.head refl)
  flagged_named NotAvailable = in_first_named 2 (lit< tt) (Memᴰ.tail (Memᴰ.head refl))
  flagged_named InvalidCommand = in_first_named 0 (lit< tt) (Memᴰ.tail (Memᴰ.tail (Memᴰ.head refl)))
  flagged_named OutOfRange = in_second_named 5 (lit< tt) (Memᴰ.head refl)
  flagged_named EscapeSeen = in_fourth_named 7 (lit< tt) (Memᴰ.head refl)
  flagged_named WrongLength = in_fourth_named 6 (lit< tt) (Memᴰ.tail (Memᴰ.head refl))
  flagged_named BytesIgnored = in_fourth_named 5 (lit< tt) (Memᴰ.tail (Memᴰ.tail (Memᴰ.head refl)))
  flagged_named WrongChecksum = in_fourth_named 4 (lit< tt) (Memᴰ.tail (Memᴰ.tail (Memᴰ.tail (Memᴰ.head refl))))

  flagged_safe : (flag : Flag) → Safe (flagged σ flag).status
  flagged_safe flag =
      let alike = marked_alike σ safe.fits flag in
      record { fits = subst StatusFits (sym alike.0) alike.1; named = flagged_named flag }

zero_only : (bits : List ℕ) → Only bits 0
zero_only bits j _ _ = rw (zero-div (2 ^ j), zero-mod 2)

none_safe : Safe no_flags
none_safe = record { fits = no_flags_fit; named = record { first = zero_only _; second = zero_only _; third = zero_only _; fourth = zero_only _ } }

abbrev SafeIn : Settings → Type 0
SafeIn σ = Safe σ.status

performed_safe : (σ : Settings) (k : ℕ) (d : List ℕ) → SafeIn σ → SafeIn (perform σ k d).settings
performed_safe σ k d safe = command_keeps SafeIn σ k d safe none_safe (flagged_safe σ safe) (λ row _ _. subst Safe (sym (written_status σ row.register d)) safe)

run_safe : (bs : List ℕ) (c : Controller) → SafeIn c.settings → SafeIn (run c bs).settings
unfolding run
run_safe [] c safe = safe
run_safe (b ∷ bs) c safe =
    run_safe bs (exchange c b).controller
    (exchange_keeps SafeIn c b safe (flagged_safe c.settings safe) (performed_safe c.settings c.packet.command _ safe))

pub rest_stay_zero : RestStayZero
rest_stay_zero bs = (run_safe bs fresh none_safe).named
