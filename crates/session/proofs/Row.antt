-- Laws of rising rows of sessions, and of the changes taken along them.
use Prim.Native.Nat.{ℕ, ◌<◌}
use mathlib.Core.Path.{◌≡◌, refl, sym, ap, ◌∙◌, subst}
use mathlib.Core.List.Memᴰ
use mathlib.Core.List.{List, [], ◌∷◌, ◌++◌, append-nil, append_assoc, Memᴰ}
use mathlib.Core.Logic.{◌⊎◌, inl, inr}
use Rattle.frame.specs.Frame.{Change}
use Rattle.session.specs.History.{Rising, taken_along}

-- a session above all of a row, at its end
pub rising_one_more : (row : List ℕ) (s : ℕ) → Rising row → ((t : ℕ) → Memᴰ t row → t < s) → Rising (row ++ (s ∷ []))
rising_one_more [] s _ _ = (λ t m. absurd (Memᴰ.not-nil m), tt)
rising_one_more (r ∷ row) s (lowest, rest) below =
    (λ t m. either t (Memᴰ.append_cases row m), rising_one_more row s rest (λ t m. below t (Memᴰ.tail m)))
  where
    either : (t : ℕ) → Memᴰ t row ⊎ Memᴰ t (s ∷ []) → r < t
    either t (inl m) = lowest t m
    either t (inr m) = subst (λ (x : ℕ). r < x) (sym (Memᴰ.eq_of_singleton m)) (below r (Memᴰ.head refl))

-- those before the last one are below it
pub below_last : (row : List ℕ) (s : ℕ) → Rising (row ++ (s ∷ [])) → (t : ℕ) → Memᴰ t row → t < s
below_last [] s _ t member = elim member [ ]
below_last (r ∷ row) s (lowest, rest) t (Memᴰ.head e) = subst (λ (x : ℕ). x < s) (sym e) (lowest s (Memᴰ.append_right row (Memᴰ.head refl)))
below_last (r ∷ row) s (lowest, rest) t (Memᴰ.tail m) = below_last row s rest t m

-- one more session, and its changes behind the others
pub along_one_more : (taken : ℕ → List Change) (row : List ℕ) (s : ℕ) → taken_along taken (row ++ (s ∷ [])) ≡ taken_along taken row ++ taken s
along_one_more taken [] s = append-nil (taken s)
along_one_more taken (r ∷ row) s = ap (λ (l : List Change). taken r ++ l) (along_one_more taken row s) ∙ sym (append_assoc (taken r) (taken_along taken row) (taken s))

-- by the changes of the row's own sessions alone
pub along_same : (taken now : ℕ → List Change) (row : List ℕ) → ((t : ℕ) → Memᴰ t row → now t ≡ taken t) → taken_along now row ≡ taken_along taken row
along_same taken now [] same = refl
along_same taken now (r ∷ row) same =
    λ i. same r (Memᴰ.head refl) i ++ along_same taken now row (λ t m. same t (Memᴰ.tail m)) i
