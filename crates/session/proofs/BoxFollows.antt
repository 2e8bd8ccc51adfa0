-- What a call at the box is asked to leave of the invariant, and what a restart and an opening leave.
use Prim.Native.Nat.{ℕ, max}
use native.Mathlib.Omega.{arith}
use mathlib.Core.Path.{◌≡◌, refl}
use mathlib.Core.List.Memᴰ
use mathlib.Core.List.{[], Memᴰ}
use mathlib.Core.Option.{get_or, none-ne-some}
use Rattle.settings.specs.Range.{Held}
use Rattle.settings.proofs.RangeLaws.{fresh_held}
use Rattle.frame.specs.Frame.{Frame}
use Rattle.session.specs.Calls.{Log}
use Rattle.session.specs.History.{BoxHistory, NamedBy, History, restarted, with_session}
use Rattle.session.proofs.Tools.{Prefix}
use Rattle.session.proofs.Invariant.{Reply, reply_welcome, reply_ack, reply_refuse, BoxSafe, Safe}

-- what is asked of the box's next history: its own part of the invariant, that true replies stay true, and that what it took was issued
pub record BoxFollows (h : History) (l : Log) (b : BoxHistory) : Type 0 where
  pub box : BoxSafe b
  pub stays : (f : Frame) → Reply h.box f → Reply b f
  pub prefix : (i s : ℕ) → NamedBy h.offices i s → Prefix (b.taken s) ((h.offices i).issued s)
  pub untaken : (s : ℕ) → (Memᴰ s l.named → ⊥) → b.taken s ≡ []
  pub own_office : (s : ℕ) → Memᴰ s b.since_restart → (i : ℕ) × NamedBy h.offices i s
  pub highest : max l.highest (get_or b.session 0) ≡ b.highest

module _ (h : History) (l : Log) (safe : Safe h l) where
  pub taken_first : (i s : ℕ) → NamedBy h.offices i s → Prefix (h.box.taken s) ((h.offices i).issued s)
  taken_first i s = ((safe.offices i).sessions s).prefix

  pub restart_follows : (told : ℕ) → told ≡ l.highest → BoxFollows h l (restarted h.box told)
  restart_follows told e =
      record {
        box = record {
          bounded = omega arith;
          above = λ s higher. safe.box.above s (omega (arith, safe.highest));
          followed = λ s here. absurd (none-ne-some s here);
          row = record { rising = tt; below = λ _ m. absurd (Memᴰ.not-nil m); last = λ s here. absurd (none-ne-some s here); along = refl };
          held = fresh_held;
        };
        stays = stays;
        prefix = taken_first;
        untaken = safe.untaken;
        own_office = λ _ m. absurd (Memᴰ.not-nil m);
        highest = omega arith;
      }
    where
      stays : (f : Frame) → Reply h.box f → Reply (restarted h.box told) f
      stays _ (reply_welcome {s = s} below settings) = reply_welcome {s = s} (omega (arith, safe.highest)) settings
      stays _ (reply_ack count) = reply_ack count
      stays _ reply_refuse = reply_refuse

-- the settings that a session opens with are in range
pub begun_held : (b : BoxHistory) (s : ℕ) → Held b.settings → Held (with_session b s).settings
begun_held b s held = held
