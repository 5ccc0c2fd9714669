-- What a machine's sum of products is worth and how large it can be, read off its shape.
-- In a goal each argument and each result stands as `to_z w (of_z w t)`, which is t where t fits. `tt` proves the test that it does.
use Rattle.std.proofs.Common.{◌≡◌, ℕ, ◌<◌, ◌+◌, ◌*◌, ◌≤◌, ◌^◌, ℤ, ◌+ℤ◌, ◌-ℤ◌, ◌*ℤ◌, unsigned_abs, FitsSigned, to_z, of_z, refl, sym, subst, ap, ◌∙◌, le_trans, lt_of_le_of_lt, lt_of_lt_of_le, le_of_lt, lit≤}
use Rattle.std.proofs.Math.Dec.{T, ltb, leb, ltb→lt, leb→le, lt→ltb}
use Rattle.std.specs.Int.{Width, w64, w128}
use Rattle.std.proofs.lemmas.Int.{to_z-of_z, fits_signed_from_abs}
use mir.Val.{hbits}
use Rattle.integers.proofs.Sizes.{abs_times, abs_plus, abs_minus}

-- t is worth v, whose size is at most m
pub record Reads (t v : ℤ) (m : ℕ) : Type 0 where
  pub is : t ≡ v
  pub size : unsigned_abs v ≤ m

pub known : (v : ℤ) (m : ℕ) → unsigned_abs v ≤ m → Reads v v m
known v m h = record { is = refl; size = h }

pub below : (v : ℤ) (m : ℕ) → unsigned_abs v < m → Reads v v m
below v m h = record { is = refl; size = le_of_lt h }

-- a result that a callee's clause equates
pub via : {r t v : ℤ} {m : ℕ} → r ≡ t → Reads t v m → Reads r v m
via e r = record { is = e ∙ r.is; size = r.size }

pub fits : {t v : ℤ} {m : ℕ} (w : Width) → Reads t v m → T (ltb m (2 ^ hbits w)) → FitsSigned w t
fits {t} {v} {m} w r h = let P : ℤ → Type 0 = λ z. FitsSigned w z in subst P (sym r.is) (fits_signed_from_abs w v (lt_of_le_of_lt r.size (ltb→lt m (2 ^ hbits w) h)))

pub pass : {t v : ℤ} {m : ℕ} (w : Width) → Reads t v m → T (ltb m (2 ^ hbits w)) → Reads (to_z w (of_z w t)) v m
pass {t} w r h = record { is = to_z-of_z w t (fits w r h) ∙ r.is; size = r.size }

pub times : {t v s u : ℤ} {m n : ℕ} → Reads t v m → Reads s u n → Reads (t *ℤ s) (v *ℤ u) (m * n)
times {t} {v} {s} {u} {m} {n} r q = record { is = ap (λ (z : ℤ). z *ℤ s) r.is ∙ ap (λ (z : ℤ). v *ℤ z) q.is; size = abs_times v u m n r.size q.size }

pub plus : {t v s u : ℤ} {m n : ℕ} → Reads t v m → Reads s u n → Reads (t +ℤ s) (v +ℤ u) (m + n)
plus {t} {v} {s} {u} {m} {n} r q = record { is = ap (λ (z : ℤ). z +ℤ s) r.is ∙ ap (λ (z : ℤ). v +ℤ z) q.is; size = abs_plus v u m n r.size q.size }

pub minus : {t v s u : ℤ} {m n : ℕ} → Reads t v m → Reads s u n → Reads (t -ℤ s) (v -ℤ u) (m + n)
minus {t} {v} {s} {u} {m} {n} r q = record { is = ap (λ (z : ℤ). z -ℤ s) r.is ∙ ap (λ (z : ℤ). v -ℤ z) q.is; size = abs_minus v u m n r.size q.size }

pub size_of : {t v : ℤ} {m : ℕ} (k : ℕ) → Reads t v m → T (leb m k) → unsigned_abs t ≤ k
size_of {t} {v} {m} k r h = let P : ℤ → Type 0 = λ z. unsigned_abs z ≤ k in subst P (sym r.is) (le_trans r.size (leb→le m k h))

-- an `i64` made an `i128` by `from`
pub wide : (v : ℤ) (m : ℕ) {r : ℤ} → r ≡ to_z w64 (of_z w64 v) → unsigned_abs v ≤ m → T (ltb m (2 ^ 63)) → Reads (to_z w128 (of_z w128 r)) v m
wide v m e h t = pass w128 (via e (pass w64 (known v m h) t)) (lt→ltb m (2 ^ 127) (lt_of_lt_of_le (ltb→lt m (2 ^ 63) t) (lit≤ tt)))

pub below_of : {t v : ℤ} {m : ℕ} (k : ℕ) → Reads t v m → T (ltb m k) → unsigned_abs t < k
below_of {t} {v} {m} k r h = let P : ℤ → Type 0 = λ z. unsigned_abs z < k in subst P (sym r.is) (lt_of_le_of_lt r.size (ltb→lt m k h))
