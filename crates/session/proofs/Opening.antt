-- What an office has named, and issued there, once an opening names a session that none named before.
use Prim.Native.Nat.{ℕ}
use mathlib.Core.Path.{◌≡◌, sym, ap, ◌∙◌}
use mathlib.Core.List.Memᴰ
use mathlib.Core.List.{List, [], ◌∷◌, Memᴰ}
use Rattle.frame.specs.Frame.{Change}
use Rattle.session.specs.History.{BoxHistory, OfficeHistory, with_opening}
use Rattle.session.proofs.Invariant.{SessionSafe, OfficeSafe}

module _ (o : OfficeHistory) (s : ℕ) where
  abbrev pub opening_now : (ℕ → List Change) → OfficeHistory
  opening_now issued = record { stage = (with_opening o s).stage; session = s; settings = (with_opening o s).settings; confirmed = 0; issued = issued; named = s ∷ o.named }

  module _ (box : BoxHistory) (named : List ℕ) (old : OfficeSafe o box named) where
    pub now_known : (t : ℕ) → Memᴰ t (opening_now o.issued).named → Memᴰ t (s ∷ named)
    now_known t m = elim m [ Memᴰ.head e ↦ Memᴰ.head e | Memᴰ.tail older ↦ Memᴰ.tail (old.known t older) ]

    module _ (untaken : box.taken s ≡ []) where
      session_named : (t : ℕ) → SessionSafe t (s ∷ o.named) (o.issued t) (box.taken t)
      session_named t =
          let before = old.sessions t in
          record {
            unnamed = λ none_named. before.unnamed (λ m. none_named (Memᴰ.tail m));
            counted = before.counted;
            valid = before.valid;
            prefix = λ m. elim m [ Memᴰ.head e ↦ rw (ap box.taken e ∙ untaken) | Memᴰ.tail older ↦ before.prefix older ];
          }

      pub now_sessions : (t : ℕ) → SessionSafe t (opening_now o.issued).named (o.issued t) (box.taken t)
      now_sessions = session_named

  pub now_keeps : (t : ℕ) → Memᴰ t o.named → Memᴰ t (opening_now o.issued).named
  now_keeps t m = Memᴰ.tail m

  pub now_new : (named : List ℕ) → (Memᴰ s named → ⊥) → (t : ℕ) → Memᴰ t (opening_now o.issued).named → Memᴰ t named → Memᴰ t o.named
  now_new named new t m known = elim m [ Memᴰ.head e ↦ absurd (new (Memᴰ.cast (sym e) known)) | Memᴰ.tail older ↦ older ]
