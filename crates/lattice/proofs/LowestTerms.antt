-- Three numbers divided by their common divisor are in lowest terms, and lead with a positive number.
use Rattle.std.proofs.Common.{◌≡◌, [], ◌∷◌, ℕ, zero, suc, ◌+◌, ◌*◌, ◌<◌, ◌≤◌, arith, refl, sym, ap, ◌∙◌, subst, one-mul, ◌^◌, FitsSigned}
use Rattle.std.specs.Prelude.{ℤ, pos, negsuc, ◌-ℤ◌, ◌*ℤ◌, ◌≤ℤ◌, ◌<ℤ◌, unsigned_abs, int_div}
use Rattle.std.specs.Int.{◌∣◌, w128}
use Rattle.std.proofs.Math.Nat.{dvd_trans, mul-dvd-mul_right, dvd_of_mul-dvd-mul_right, eq-one_of_dvd-one, pos_of_dvd_of_pos}
use Rattle.std.proofs.lemmas.Int.{ints, unsigned_abs-mul}
use Rattle.integers.proofs.Ring.{var, con, ◌⊖◌, ◌⊗◌, ring}
use Rattle.integers.proofs.Signs.{mul_pos, square_pos, pos_of_mul}
use Rattle.exact_frac.specs.Divisors.{IsGreatestDivisor}
use Rattle.exact_frac.proofs.Divisors.{exact}
use Rattle.lattice.specs.LowestTerms.{leading_of, HaveNoCommonDivisor}
use Rattle.lattice.specs.inner.LeadingDivisors.{IsLeadingDivisor}

-- ---- the first that isn't 0
leading_zero : (a b : ℤ) → a ≡ pos 0 → leading_of a b ≡ b
leading_zero a b h = ap (λ (z : ℤ). leading_of z b) h

leading_first : (a b : ℤ) → ¬ (a ≡ pos 0) → leading_of a b ≡ a
leading_first (pos zero) b h = absurd (h refl)
leading_first (pos (suc n)) b h = refl
leading_first (negsuc n) b h = refl

leading_counts : (a b : ℤ) → 0 < unsigned_abs a + unsigned_abs b → 0 < unsigned_abs (leading_of a b)
leading_counts (pos zero) b h = omega arith
leading_counts (pos (suc n)) b h = omega arith
leading_counts (negsuc n) b h = omega arith

-- ---- the divisor
divisor_counts : (m n g : ℕ) → 0 < m + n → g ∣ m → g ∣ n → 0 < g
divisor_counts zero zero g h p q = absurd (omega arith)
divisor_counts zero (suc n) g h p q = pos_of_dvd_of_pos q (omega arith)
divisor_counts (suc m) n g h p q = pos_of_dvd_of_pos p (omega arith)

-- h is the divisor of a and b, and g that of h and c
module _ (a b c h g : ℤ) (somewhere : 0 < unsigned_abs a + unsigned_abs b) (one : IsGreatestDivisor a b h) (two : IsGreatestDivisor h c g) where
  counts : 0 < unsigned_abs g
  counts = divisor_counts (unsigned_abs a) (unsigned_abs b) (unsigned_abs g) somewhere (dvd_trans _ two.greatest.0 one.greatest.0) (dvd_trans _ two.greatest.0 one.greatest.1)

  with_size : (f : ℤ) → unsigned_abs g ≡ unsigned_abs f → pos 0 <ℤ (leading_of a b *ℤ f) → IsLeadingDivisor a b c f
  with_size f same leads =
      let small : (n : ℕ) → unsigned_abs g ∣ n → unsigned_abs f ∣ n = λ n. subst (λ x. x ∣ n) same in
      record {
        leads = leads;
        first = small _ (dvd_trans _ two.greatest.0 one.greatest.0);
        second = small _ (dvd_trans _ two.greatest.0 one.greatest.1);
        third = small _ two.greatest.1;
        greatest = λ n p q r. subst (λ x. n ∣ x) same (two.greatest.2 n (one.greatest.2 n p q) r);
      }

  -- the leading number isn't negative, or it is
  pub upright : pos 0 ≤ℤ leading_of a b → IsLeadingDivisor a b c g
  upright h = with_size g refl (mul_pos (leading_of a b) g (positive (leading_of a b) h (leading_counts a b somewhere)) (positive g two.not_negative counts))
    where
      positive : (z : ℤ) → pos 0 ≤ℤ z → 0 < unsigned_abs z → pos 0 <ℤ z
      positive z h k = omega (arith, ints)

  pub turned : leading_of a b <ℤ pos 0 → IsLeadingDivisor a b c (pos 0 -ℤ g)
  turned h = with_size (pos 0 -ℤ g) (same g) (both (leading_of a b) g h two.not_negative counts)
    where
      same : (z : ℤ) → unsigned_abs z ≡ unsigned_abs (pos 0 -ℤ z)
      same z = omega (arith, ints)

      both : (z g : ℤ) → z <ℤ pos 0 → pos 0 ≤ℤ g → 0 < unsigned_abs g → pos 0 <ℤ (z *ℤ (pos 0 -ℤ g))
      both z g h k l =
          let P : ℤ → Type 0 = λ x. pos 0 <ℤ x in
          subst P (ring (z ∷ g ∷ []) ((con (pos 0) ⊖ var 0) ⊗ var 1) (var 0 ⊗ (con (pos 0) ⊖ var 1)) refl) (mul_pos (pos 0 -ℤ z) g (omega (arith, ints)) (omega (arith, ints)))

-- ---- the quotients
quotient_size : (q g a : ℕ) → 0 < g → q * g ≡ a → q ≤ a
quotient_size q zero a h e = absurd (omega arith)
quotient_size q (suc g) a h e = omega arith

-- x is a / g and y is b / g
leads_still : (x y g a b : ℤ) → 0 < unsigned_abs g → x *ℤ g ≡ a → y *ℤ g ≡ b → pos 0 <ℤ (leading_of a b *ℤ g) → pos 0 <ℤ leading_of x y
leads_still x y g a b hg ea eb h = go x ea
  where
    square : (z b : ℤ) → z *ℤ g ≡ b → pos 0 <ℤ (b *ℤ g) → pos 0 <ℤ z
    square z b e k =
        let P : ℤ → Type 0 = λ v. pos 0 <ℤ v in
        pos_of_mul (g *ℤ g) z (square_pos g hg) (subst P (ap (λ (v : ℤ). v *ℤ g) (sym e) ∙ ring (z ∷ g ∷ []) ((var 0 ⊗ var 1) ⊗ var 1) ((var 1 ⊗ var 1) ⊗ var 0) refl) k)

    nothing : (g a : ℤ) → pos 0 *ℤ g ≡ a → a ≡ pos 0
    nothing g a e = omega (arith, ints)

    go : (x : ℤ) → x *ℤ g ≡ a → pos 0 <ℤ leading_of x y
    go (pos zero) e = square y b eb (let P : ℤ → Type 0 = λ v. pos 0 <ℤ (v *ℤ g) in subst P (leading_zero a b (nothing g a e)) h)
    go (pos (suc x)) e = omega (arith, ints)
    go (negsuc x) e = absurd (not_negative x (square (negsuc x) a e (let P : ℤ → Type 0 = λ v. pos 0 <ℤ (v *ℤ g) in subst P (leading_first a b (some x a e)) h)))
      where
        not_negative : (x : ℕ) → pos 0 <ℤ negsuc x → ⊥
        not_negative x h = omega (arith, ints)

        some : (x : ℕ) (a : ℤ) → negsuc x *ℤ g ≡ a → a ≡ pos 0 → ⊥
        some x a e z = let s = sym (unsigned_abs-mul (negsuc x) g) ∙ ap unsigned_abs (e ∙ z) in no_product x (unsigned_abs g) hg s
          where
            no_product : (x g : ℕ) → 0 < g → suc x * g ≡ 0 → ⊥
            no_product x g h e = omega arith

-- what `Line::lowest` knows of its quotients
pub record Quotients (a b c g : ℤ) : Type 0 where
  pub counts : 0 < unsigned_abs g
  pub a_exact : int_div a g *ℤ g ≡ a
  pub b_exact : int_div b g *ℤ g ≡ b
  pub c_exact : int_div c g *ℤ g ≡ c
  pub a_size : unsigned_abs (int_div a g) ≤ unsigned_abs a
  pub b_size : unsigned_abs (int_div b g) ≤ unsigned_abs b
  pub c_size : unsigned_abs (int_div c g) ≤ unsigned_abs c
  pub a_fits : FitsSigned w128 (int_div a g)
  pub b_fits : FitsSigned w128 (int_div b g)
  pub c_fits : FitsSigned w128 (int_div c g)
  pub leads : pos 0 <ℤ leading_of (int_div a g) (int_div b g)
  pub lowest : HaveNoCommonDivisor (int_div a g) (int_div b g) (int_div c g)

pub quotients : (a b c g : ℤ) → unsigned_abs a ≤ 2 ^ 44 → unsigned_abs b ≤ 2 ^ 44 → unsigned_abs c < 2 ^ 67 → IsLeadingDivisor a b c g → Quotients a b c g
quotients a b c g ha hb hc d =
    let some : 0 < unsigned_abs g = counts (leading_of a b) g d.leads in
    let ea = exact a g d.first in
    let eb = exact b g d.second in
    let ec = exact c g d.third in
    let sa = sym (unsigned_abs-mul (int_div a g) g) ∙ ap unsigned_abs ea in
    let sb = sym (unsigned_abs-mul (int_div b g) g) ∙ ap unsigned_abs eb in
    let sc = sym (unsigned_abs-mul (int_div c g) g) ∙ ap unsigned_abs ec in
    record {
      counts = some;
      a_exact = ea;
      b_exact = eb;
      c_exact = ec;
      a_size = quotient_size _ (unsigned_abs g) _ some sa;
      b_size = quotient_size _ (unsigned_abs g) _ some sb;
      c_size = quotient_size _ (unsigned_abs g) _ some sc;
      a_fits = fits (int_div a g) a (quotient_size _ (unsigned_abs g) _ some sa) (omega arith);
      b_fits = fits (int_div b g) b (quotient_size _ (unsigned_abs g) _ some sb) (omega arith);
      c_fits = fits (int_div c g) c (quotient_size _ (unsigned_abs g) _ some sc) hc;
      leads = leads_still (int_div a g) (int_div b g) g a b some ea eb d.leads;
      lowest = λ n p q r.
          let times : (x z : ℕ) → x * unsigned_abs g ≡ z → n ∣ x → n * unsigned_abs g ∣ z = λ x z e h. subst (λ v. n * unsigned_abs g ∣ v) e (mul-dvd-mul_right n h (unsigned_abs g)) in
          let all = d.greatest (n * unsigned_abs g) (times _ _ sa p) (times _ _ sb q) (times _ _ sc r) in
          eq-one_of_dvd-one (dvd_of_mul-dvd-mul_right n some (subst (λ v. n * unsigned_abs g ∣ v) (sym (one-mul (unsigned_abs g))) all));
    }
  where
    fits : (q z : ℤ) → unsigned_abs q ≤ unsigned_abs z → unsigned_abs z < 2 ^ 67 → FitsSigned w128 q
    fits q z h k = omega (arith, ints)

    counts : (z g : ℤ) → pos 0 <ℤ (z *ℤ g) → 0 < unsigned_abs g
    counts z (pos zero) h = absurd (omega (arith, ints))
    counts z (pos (suc g)) h = omega arith
    counts z (negsuc g) h = omega arith
