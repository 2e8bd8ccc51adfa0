-- Safety's invariant: what holds of the history and the log along every allowed list of calls.
use Prim.Native.Nat.{ℕ, ◌-◌, ◌<◌, ◌≤◌}
use native.Mathlib.Omega.{arith}
use mathlib.Core.Path.{◌≡◌, refl, sym, ap, ◌∙◌}
use mathlib.Core.Bool.{Bool, true, false}
use mathlib.Core.List.Memᴰ
use mathlib.Core.List.{List, [], ◌∷◌, ◌++◌, foldl-append, Memᴰ}
use mathlib.Core.Option.{some, get_or, none-ne-some}
use lib.ListN.{length, get_elem?}
use Rattle.settings.specs.declared.settings.Settings.{Settings}
use Rattle.settings.specs.Settings.{fresh}
use Rattle.settings.specs.Range.{Held}
use Rattle.settings.proofs.RangeLaws.{fresh_held}
use Rattle.frame.specs.Frame.{Change, ValidChange, Frame, opening, welcome, order, ack, refuse}
use Rattle.judging.specs.declared.End.TheVariants.{Box, Office}
use Rattle.judging.specs.Theorems.{reader}
use Rattle.order.specs.Apply.{apply}
use Rattle.session.specs.Calls.{Log, first_log, FitsSession}
use Rattle.session.specs.History.{taken_along, Rising, Stage, unopened, is_awaiting, is_live, BoxHistory, OfficeHistory, History, first_box, first_office, first_history, NamedBy, settings_after, orders}
use Rattle.session.specs.Limits.{order_limit}
use Rattle.session.proofs.Tools.{impossible, Prefix, EachDecodes}

pub settings_next : (σ τ : Settings) (changes : List Change) (c : Change) → τ ≡ settings_after σ changes →
    apply τ c ≡ settings_after σ (changes ++ (c ∷ []))
settings_next σ τ changes c e = ap (λ (υ : Settings). apply υ c) e ∙ sym (foldl-append apply σ changes (c ∷ []))

-- true frames of the offices: a session that one of them named, and order n as the n-th change that it issued in it
pub data Request (offices : ℕ → OfficeHistory) : Frame → Type 0 where
  request_opening : {i s : ℕ} → NamedBy offices i s → Request offices (opening s)
  request_order : {i s n : ℕ} {c : Change} → NamedBy offices i s → get_elem? ((offices i).issued s) (n - 1) ≡ some c → Request offices (order s n c)

-- true frames of the box: WELCOME has the settings that its session opened with, ACK counts no more than were taken
pub data Reply (b : BoxHistory) : Frame → Type 0 where
  reply_welcome : {s : ℕ} {σ : Settings} → s ≤ b.highest → σ ≡ b.opened s → Reply b (welcome s σ)
  reply_ack : {s k : ℕ} → k ≤ length (b.taken s) → Reply b (ack s k)
  reply_refuse : {s r : ℕ} → Reply b (refuse s r)

pub request_reader : {offices : ℕ → OfficeHistory} (f : Frame) → Request offices f → reader f ≡ Box
request_reader _ (request_opening _) = refl
request_reader _ (request_order _ _) = refl

pub reply_reader : {b : BoxHistory} (f : Frame) → Reply b f → reader f ≡ Office
reply_reader _ (reply_welcome _ _) = refl
reply_reader _ (reply_ack _) = refl
reply_reader _ reply_refuse = refl

-- the changes that an office issued in one session, and those taken there
pub record SessionSafe (s : ℕ) (named : List ℕ) (issued taken : List Change) : Type 0 where
  pub unnamed : (Memᴰ s named → ⊥) → issued ≡ []
  pub counted : length issued ≤ order_limit
  pub valid : (n : ℕ) (c : Change) → get_elem? issued n ≡ some c → ValidChange c
  pub prefix : Memᴰ s named → Prefix taken issued

-- the sessions opened since the restart rise up to the open one, and their changes made the settings from fresh
pub record RowSafe (b : BoxHistory) : Type 0 where
  pub rising : Rising b.since_restart
  pub below : (s : ℕ) → Memᴰ s b.since_restart → s ≤ b.highest
  pub last : (s : ℕ) → b.session ≡ some s → (earlier : List ℕ) × (b.since_restart ≡ earlier ++ (s ∷ []))
  pub along : b.settings ≡ settings_after fresh (taken_along b.taken b.since_restart)

-- no session above the highest was open, and the open one's changes made the settings from those it opened with
pub record BoxSafe (b : BoxHistory) : Type 0 where
  pub bounded : get_or b.session 0 ≤ b.highest
  pub above : (s : ℕ) → b.highest < s → b.taken s ≡ []
  pub followed : (s : ℕ) → b.session ≡ some s → b.settings ≡ settings_after (b.opened s) (b.taken s)
  pub row : RowSafe b
  pub held : Held b.settings

-- the settings are those of the session's WELCOME after the changes issued
pub record LiveSafe (b : BoxHistory) (session : ℕ) (settings : Settings) (issued : List Change) : Type 0 where
  pub welcomed : Settings
  pub reply : Reply b (welcome session welcomed)
  pub followed : settings ≡ settings_after welcomed issued

-- `known`: what it named, openings have named; `confirmed`: no more than the box took, at every stage
pub record OfficeSafe (o : OfficeHistory) (b : BoxHistory) (named : List ℕ) : Type 0 where
  pub fits : FitsSession o.session
  pub known : (s : ℕ) → Memᴰ s o.named → Memᴰ s named
  pub own : (o.stage ≡ unopened → ⊥) → Memᴰ o.session o.named
  pub sessions : (s : ℕ) → SessionSafe s o.named (o.issued s) (b.taken s)
  pub confirmed : Reply b (ack o.session o.confirmed)
  pub while_awaiting : is_awaiting o.stage ≡ true → orders o ≡ []
  pub while_live : is_live o.stage ≡ true → LiveSafe b o.session o.settings (orders o)

pub record Safe (h : History) (l : Log) : Type 0 where
  pub box : BoxSafe h.box
  pub offices : (i : ℕ) → OfficeSafe (h.offices i) h.box l.named
  -- no session is named twice
  pub apart : (i j s : ℕ) → NamedBy h.offices i s → NamedBy h.offices j s → i ≡ j
  pub untaken : (s : ℕ) → (Memᴰ s l.named → ⊥) → h.box.taken s ≡ []
  pub own_office : (s : ℕ) → Memᴰ s h.box.since_restart → (i : ℕ) × NamedBy h.offices i s
  pub highest : l.highest ≡ h.box.highest
  pub requests : EachDecodes (Request h.offices) l.from_offices
  pub replies : EachDecodes (Reply h.box) l.from_box

pub none_confirmed : (b : BoxHistory) (s : ℕ) → Reply b (ack s 0)
none_confirmed b s = reply_ack {s = s} {k = 0} (omega arith)

-- a stage that passes a test which `unopened` fails
pub opened_by : (test : Stage → Bool) → test unopened ≡ false → (g : Stage) → test g ≡ true → g ≡ unopened → ⊥
opened_by test fails g passes e = impossible (sym fails ∙ ap test (sym e) ∙ passes)

first_box_safe : BoxSafe first_box
first_box_safe =
    record {
      bounded = omega arith;
      above = λ _ _. refl;
      followed = λ s e. absurd (none-ne-some s e);
      row = record { rising = tt; below = λ _ m. absurd (Memᴰ.not-nil m); last = λ s e. absurd (none-ne-some s e); along = refl };
      held = fresh_held;
    }

first_office_safe : OfficeSafe first_office first_box []
first_office_safe =
    record {
      fits = omega arith;
      known = λ _ m. m;
      own = λ opened. absurd (opened refl);
      sessions = λ _. record { unnamed = λ _. refl; counted = omega arith; valid = λ _ c e. absurd (none-ne-some c e); prefix = λ _. refl };
      confirmed = none_confirmed _ 0;
      while_awaiting = impossible;
      while_live = impossible;
    }

pub safe_first : Safe first_history first_log
safe_first =
    record {
      box = first_box_safe;
      offices = λ _. first_office_safe;
      apart = λ _ _ _ m _. absurd (Memᴰ.not-nil m);
      untaken = λ _ _. refl;
      own_office = λ _ m. absurd (Memᴰ.not-nil m);
      highest = refl;
      requests = λ _ m. absurd (Memᴰ.not-nil m);
      replies = λ _ m. absurd (Memᴰ.not-nil m);
    }
