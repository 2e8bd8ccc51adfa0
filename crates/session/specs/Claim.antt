-- Demand 3, stated: document 01, "Demand 3's list and book", Compared, for one box and any number of offices: document 02, Ask 12. It is proved in proofs/Theorem.antt.
-- Calls.antt has the list of calls, History.antt the book; Box.antt and Office.antt are the rules that the code's contracts cite; Over.antt says when an office is over.
use Rattle.std.specs.Prelude.{ℕ, ◌≤◌, ◌≡◌, length, take}
use mathlib.Core.List.{List, [], ◌∷◌, ◌++◌, Memᴰ}
use Rattle.std.proofs.Math.Option.{some}
use Rattle.settings.specs.Settings.{fresh}
use Rattle.registers.specs.Block.{block}
use Rattle.session.specs.declared.Cab.{Cab}
use Rattle.session.specs.declared.Office.{Office}
use Rattle.session.specs.declared.Progress.TheVariants.{Settled}
use Rattle.session.specs.Calls.{Call, state_after, answers, Ends, first_ends, ends_rules, cab_session, Allowed}
use Rattle.session.specs.History.{unopened, live, BoxHistory, OfficeHistory, History, first_history, NamedBy, settings_after, taken_along, Rising, Closed, orders, rules, progress}
use Rattle.session.specs.Office as office
use Rattle.session.specs.Over.{EachCall, OverFollows}

-- the box and the history, 01's book
pub record BoxAgrees (c : Cab) (h : History) : Type 0 where
  -- its open session, highest and settings are the book's
  pub session : cab_session c ≡ h.box.session
  pub highest : c.highest.0 ≡ h.box.highest
  pub settings : c.controller.settings ≡ h.box.settings
  -- while a session is open: so is k
  pub taken_count : (s : ℕ) → h.box.session ≡ some s → c.taken.0 ≡ length (h.box.taken s)
  -- the orders taken in a session, open or not, are the first ones issued in it, by the office that named it
  pub first_taken : (i s : ℕ) → NamedBy h.offices i s → h.box.taken s ≡ take (length (h.box.taken s)) ((h.offices i).issued s)
  -- while it is open, the controller's settings are those it opened with, kept at its OPEN, then changed by the first k orders issued in it
  pub settings_follow : (i s : ℕ) → h.box.session ≡ some s → NamedBy h.offices i s →
      c.controller.settings ≡ settings_after (h.box.opened s) (take c.taken.0 ((h.offices i).issued s))

-- the sessions opened at the box since its start or last restart
pub record SessionsInOrder (c : Cab) (h : History) : Type 0 where
  pub rising : Rising h.box.since_restart
  pub open_last : (s : ℕ) → h.box.session ≡ some s → (earlier : List ℕ) × (h.box.since_restart ≡ earlier ++ (s ∷ []))
  -- each is one office's own
  pub own_office : (s : ℕ) → Memᴰ s h.box.since_restart → (i : ℕ) × NamedBy h.offices i s
  pub no_other_office : (i j s : ℕ) → NamedBy h.offices i s → NamedBy h.offices j s → i ≡ j
  -- the controller's settings are the fresh ones after the orders taken in them, one session after the other, nothing mixed
  pub settings_along : c.controller.settings ≡ settings_after fresh (taken_along h.box.taken h.box.since_restart)

abbrev pub HasSession : OfficeHistory → Type 0
HasSession o = o.stage ≡ unopened → ⊥

-- an office x and its history o, beside the box and its history b
pub record OfficeAgrees (x : Office) (o : OfficeHistory) (c : Cab) (b : BoxHistory) : Type 0 where
  -- its word is the book's
  pub same_progress : office.progress x ≡ progress o
  -- once it has a session: so are that session, a and the issued count
  pub session : HasSession o → x.session.0 ≡ o.session
  pub confirmed : HasSession o → x.confirmed.0 ≡ o.confirmed
  pub issued_count : HasSession o → x.issued.0 ≡ length (orders o)
  -- while it is open: so are its settings
  pub settings : o.stage ≡ live → x.settings ≡ o.settings
  -- what it has confirmed was taken in its session, ended or not: a is at most the number taken, and the first a taken are the first a issued
  pub confirmed_taken : x.confirmed.0 ≤ length (b.taken x.session.0)
  pub confirmed_first : HasSession o → take x.confirmed.0 (b.taken x.session.0) ≡ take x.confirmed.0 (orders o)
  -- where it says "settled" and its session is the box's open one, its settings and the controller's are equal, byte by byte
  pub settled_equal : office.progress x ≡ Settled → cab_session c ≡ some x.session.0 → block x.settings ≡ block c.controller.settings

abbrev pub ends_after : List Call → Ends
ends_after cs = state_after ends_rules first_ends cs

abbrev pub history_after : List Call → History
history_after cs = state_after rules first_history cs

-- of a list of calls, a field for each sentence
pub record Claim (cs : List Call) : Type 0 where
  -- each call's refusal and the frame it wrote are byte for byte what the rules give from the book as it then stood
  pub same_answers : answers ends_rules first_ends cs ≡ answers rules first_history cs
  -- after the list the ends are as the book tells
  pub box_agrees : BoxAgrees (ends_after cs).cab (history_after cs)
  pub sessions_in_order : SessionsInOrder (ends_after cs).cab (history_after cs)
  pub office_agrees : (i : ℕ) → OfficeAgrees ((ends_after cs).offices i) ((history_after cs).offices i) (ends_after cs).cab (history_after cs).box
  -- a session that was closed after n calls, overtaken by a higher one among them, takes no further order
  pub closed_for_good : (n s : ℕ) → Closed (history_after (take n cs)).box s → (history_after cs).box.taken s ≡ (history_after (take n cs)).box.taken s
  -- an office says "settled" or "waiting" until a REFUSE 5 or 6 naming its session reaches it, then "over"
  pub over_when_told : (i : ℕ) → EachCall (OverFollows i) first_ends cs

-- from a box at its first start and offices never opened, for any list of calls that keeps to 01's List
abbrev pub Demand3 : Type 0
Demand3 = (cs : List Call) → Allowed cs → Claim cs
