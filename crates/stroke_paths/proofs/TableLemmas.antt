-- The table of joints: one more stroke, and what all of it says.
use Rattle.std.proofs.Common.{◌≡◌, ◌⊎◌, inl, inr, ℕ, ◌+◌, ◌<◌, List, [], ◌∷◌, ◌++◌, Option, Some, None, length, slice_get, refl, sym, ap, subst, ◌∙◌, arith}
use Rattle.std.specs.Option.{option_and_then}
use Rattle.std.proofs.lemmas.Bool.{cases_eq}
use Rattle.std.proofs.lemmas.List.{length-append, get_or_push, get_or_append_left}
use Rattle.std.proofs.lemmas.Option.{slice_get_within, slice_get-get_or, MatchOption-at_some, MatchOption-at_none}
use Rattle.sheet_plan.specs.declared.sheet.Stroke.{Stroke}
use Rattle.stroke_paths.specs.declared.joint.Joint.{Joint}
use Rattle.stroke_paths.specs.declared.path.End.{End}
use Rattle.stroke_paths.specs.declared.path.Tip.{Tip}
use Rattle.stroke_paths.specs.declared.path.Tip.TheVariants.{First, Second}
use Rattle.stroke_paths.specs.inner.Tables.{joined_at, partner, IsJoint, AreJointsBelow, AreJoints}
use Rattle.stroke_paths.specs.inner.Walks.{AreMatched}
use Rattle.stroke_paths.specs.Joints.{AreJoined}
use Rattle.stroke_paths.specs.Routes.{IsLoose}
use Rattle.stroke_paths.proofs.Joined.{joined_back, joined_one}

pub no_joints : (strokes : List Stroke) (joints : List Joint) → joints ≡ [] → AreJointsBelow strokes 0 joints
no_joints strokes joints e = record { all = ap length e; each = λ f h. absurd (omega (arith, h)) }

module _ (strokes : List Stroke) (i : ℕ) (joints : List Joint) (j : Joint) (so_far : AreJointsBelow strokes i joints)
    (first : IsJoint strokes (record { stroke = i; tip = First }) j.first) (second : IsJoint strokes (record { stroke = i; tip = Second }) j.second) where
  pub one_more_joint : AreJointsBelow strokes (i + 1) (joints ++ j ∷ [])
  one_more_joint = record { all = omega (arith, so_far.all, length-append joints (j ∷ [])); each = λ e h. by e h (cases_eq e.stroke i) }
    where
      new : (n : ℕ) → n ≡ i → slice_get (joints ++ j ∷ []) n ≡ Some j
      new n e = slice_get-get_or (joints ++ j ∷ []) n j (omega (arith, so_far.all, length-append joints (j ∷ []))) ∙ ap Some (get_or_push joints j j n (so_far.all ∙ sym e))

      old : (n : ℕ) → n < i → slice_get (joints ++ j ∷ []) n ≡ slice_get joints n
      old n h =
          slice_get-get_or (joints ++ j ∷ []) n j (omega (arith, so_far.all, length-append joints (j ∷ []))) ∙ ap Some (get_or_append_left joints (j ∷ []) j n (omega (arith, so_far.all)))
          ∙ sym (slice_get-get_or joints n j (omega (arith, so_far.all)))

      here : (e : End) → e.stroke ≡ i → (b : Tip) → e.tip ≡ b → IsJoint strokes e (joined_at b j)
      here e h Second q = subst (λ (x : End). IsJoint strokes x j.second) (λ k. record { stroke = sym h k; tip = sym q k }) second
      here e h First q = subst (λ (x : End). IsJoint strokes x j.first) (λ k. record { stroke = sym h k; tip = sym q k }) first

      by : (e : End) → e.stroke < i + 1 → (e.stroke ≡ i) ⊎ (e.stroke ≡ i → ⊥) → IsJoint strokes e (partner (joints ++ j ∷ []) e)
      by e h (inl k) = subst (IsJoint strokes e) (sym (ap (option_and_then (joined_at e.tip)) (new e.stroke k))) (here e k e.tip refl)
      by e h (inr k) =
          let less : e.stroke < i = omega (arith, h, k) in
          subst (IsJoint strokes e) (sym (ap (option_and_then (joined_at e.tip)) (old e.stroke less))) (so_far.each e less)

pub one_more_joint_by : (strokes : List Stroke) (i : ℕ) (joints : List Joint) (j : Joint) → AreJointsBelow strokes i joints → IsJoint strokes (record { stroke = i; tip = First }) j.first
    → IsJoint strokes (record { stroke = i; tip = Second }) j.second → (more : List Joint) → more ≡ joints ++ j ∷ [] → AreJointsBelow strokes (i + 1) more
one_more_joint_by strokes i joints j so_far first second more e = subst (AreJointsBelow strokes (i + 1)) (sym e) (one_more_joint strokes i joints j so_far first second)

-- ---- what all of it says
partner_listed : (joints : List Joint) (e f : End) → partner joints e ≡ Some f → e.stroke < length joints
partner_listed joints e f h = by (slice_get joints e.stroke) refl h
  where
    by : (o : Option Joint) → slice_get joints e.stroke ≡ o → option_and_then (joined_at e.tip) o ≡ Some f → e.stroke < length joints
    by None q k = absurd cc
    by (Some j) q k = slice_get_within joints e.stroke j q

module _ (strokes : List Stroke) (joints : List Joint) (h : AreJoints strokes joints) where
  pub joined_of : (e f : End) → partner joints e ≡ Some f → AreJoined strokes e f
  joined_of e f q =
      MatchOption-at_some (IsLoose strokes e) (AreJoined strokes e) f q (h.each e (omega (arith, h.all, partner_listed joints e f q)))

  pub loose_of : (e : End) → partner joints e ≡ None → IsLoose strokes e
  loose_of e q f k =
      MatchOption-at_none (IsLoose strokes e) (AreJoined strokes e) q (h.each e (slice_get_within strokes e.stroke k.first.stroke k.first.listed)) f k

  pub matched_of : AreMatched joints
  matched_of =
      record {
        back = λ e f q. back e f (joined_back strokes e f (joined_of e f q)) (partner joints f) refl;
        two = λ e f q. (joined_of e f q).goes_on.two;
        within = λ e f q. within e f (joined_of e f q);
      }
    where
      within : (e f : End) → AreJoined strokes e f → f.stroke < length joints
      within e f k = omega (arith, h.all, slice_get_within strokes f.stroke k.second.stroke k.second.listed)

      back : (e f : End) → AreJoined strokes f e → (o : Option End) → partner joints f ≡ o → partner joints f ≡ Some e
      back e f k None q = absurd (loose_of f q e k)
      back e f k (Some g) q = q ∙ ap Some (sym (joined_one strokes f e g k (joined_of f g q)))
