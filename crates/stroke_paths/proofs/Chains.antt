-- Steps that follow one another, by a table in which each end is joined to one other at most: from where their inner ends go on.
use Rattle.std.proofs.Common.{◌≡◌, ◌⊎◌, inl, inr, ℕ, List, [], ◌∷◌, Some, refl, sym, ap, subst, ◌∙◌}
use Rattle.stroke_paths.specs.declared.joint.Joint.{Joint}
use Rattle.stroke_paths.specs.declared.path.End.{End}
use Rattle.stroke_paths.specs.declared.path.Step.{Step}
use Rattle.stroke_paths.specs.declared.path.Tip.{Tip}
use Rattle.stroke_paths.specs.declared.path.Tip.TheVariants.{First, Second}
use Rattle.stroke_paths.specs.Joints.{other_tip}
use Rattle.stroke_paths.specs.inner.Tables.{partner}
use Rattle.stroke_paths.specs.inner.Walks.{IsAmong, AreApart, strokes_of, AreMatched, AreLinked}
use Rattle.stroke_paths.specs.Routes.{first_end, last_end, last_of, start_of}

-- ---- ends of steps
abbrev pub stroke_of : End → ℕ
stroke_of e = e.stroke

pub ends_differ : (s : Step) → first_end s ≡ last_end s → ⊥
ends_differ s e = by (start_of s.turned) (ap (λ (f : End). f.tip) e)
  where
    by : (t : Tip) → t ≡ other_tip t → ⊥
    by First h = cc
    by Second h = cc

-- an end of a stroke that is passed is where the step begins or where it ends
pub one_of_two : (s : Step) (e : End) → e.stroke ≡ s.stroke → (e ≡ first_end s) ⊎ (e ≡ last_end s)
one_of_two s e same = by (start_of s.turned) e.tip refl refl
  where
    by : (a b : Tip) → start_of s.turned ≡ a → e.tip ≡ b → (e ≡ first_end s) ⊎ (e ≡ last_end s)
    by First First h k = inl (λ i. record { stroke = same i; tip = (k ∙ sym h) i })
    by Second Second h k = inl (λ i. record { stroke = same i; tip = (k ∙ sym h) i })
    by First Second h k = inr (λ i. record { stroke = same i; tip = (k ∙ sym (ap other_tip h)) i })
    by Second First h k = inr (λ i. record { stroke = same i; tip = (k ∙ sym (ap other_tip h)) i })

pub last_among : (s : Step) (rest : List Step) → IsAmong (strokes_of (s ∷ rest)) (last_of s rest).stroke
last_among s [] = inl refl
last_among s (t ∷ rest) = inr (last_among t rest)

module _ (joints : List Joint) (m : AreMatched joints) where
  -- two ends with one partner are one
  pub one_partner : (e f g : End) → partner joints e ≡ Some g → partner joints f ≡ Some g → e ≡ f
  one_partner e f g h k = by (sym (m.back e g h) ∙ m.back f g k)
    where
      by : ◌≡◌ {A = _} (Some e) (Some f) → e ≡ f
      by q = cc

  -- where an end of a stroke that is passed is
  pub record IsInner (s : Step) (rest : List Step) (e : End) : Type 0 where
    pub other : End
    pub joined : partner joints e ≡ Some other
    pub among : IsAmong (strokes_of (s ∷ rest)) other.stroke
    pub not_first : other ≡ first_end s → ⊥
    pub not_last : other ≡ last_end (last_of s rest) → ⊥

  pub data WhereIs (s : Step) (rest : List Step) (e : End) : Type 0 where
    at_first : e ≡ first_end s → WhereIs s rest e
    at_last : e ≡ last_end (last_of s rest) → WhereIs s rest e
    inner : IsInner s rest e → WhereIs s rest e

  pub where_is : (s : Step) (rest : List Step) (e : End) → AreLinked joints s rest → AreApart (strokes_of (s ∷ rest)) → IsAmong (strokes_of (s ∷ rest)) e.stroke → WhereIs s rest e
  where_is s [] e linked apart (inl h) = by (one_of_two s e (sym h))
    where
      by : (e ≡ first_end s) ⊎ (e ≡ last_end s) → WhereIs s [] e
      by (inl k) = at_first k
      by (inr k) = at_last k
  where_is s [] e linked apart (inr h) = absurd h
  where_is s (t ∷ rest) e linked apart (inl h) = by (one_of_two s e (sym h))
    where
      by : (e ≡ first_end s) ⊎ (e ≡ last_end s) → WhereIs s (t ∷ rest) e
      by (inl k) = at_first k
      by (inr k) =
          inner
          (record {
            other = first_end t;
            joined = ap (partner joints) k ∙ linked.0;
            among = inr (inl refl);
            not_first = λ q. apart.0 (inl (ap stroke_of q));
            not_last = λ q. inside rest q apart.1;
          })
        where
          inside : (rest : List Step) → first_end t ≡ last_end (last_of t rest) → AreApart (strokes_of (t ∷ rest)) → ⊥
          inside [] q a = ends_differ t q
          inside (u ∷ us) q a = a.0 (subst (IsAmong (strokes_of (u ∷ us))) (sym (ap stroke_of q)) (last_among u us))
  where_is s (t ∷ rest) e linked apart (inr h) = by (where_is t rest e linked.1 apart.1 h)
    where
      by : WhereIs t rest e → WhereIs s (t ∷ rest) e
      by (at_first k) =
          inner
          (record {
            other = last_end s;
            joined = ap (partner joints) k ∙ m.back (last_end s) (first_end t) linked.0;
            among = inl refl;
            not_first = λ q. ends_differ s (sym q);
            not_last = λ q. apart.0 (subst (IsAmong (strokes_of (t ∷ rest))) (sym (ap stroke_of q)) (last_among t rest));
          })
      by (at_last k) = at_last k
      by (inner i) =
          inner
          (record {
            other = i.other;
            joined = i.joined;
            among = inr i.among;
            not_first = λ q. apart.0 (subst (IsAmong (strokes_of (t ∷ rest))) (ap stroke_of q) i.among);
            not_last = i.not_last;
          })

  -- what goes on from the last end to a stroke of the chain comes back to the first end
  pub comes_back : (s : Step) (rest : List Step) (f : End) → AreLinked joints s rest → AreApart (strokes_of (s ∷ rest)) → partner joints (last_end (last_of s rest)) ≡ Some f
      → IsAmong (strokes_of (s ∷ rest)) f.stroke → f ≡ first_end s
  comes_back s rest f linked apart joined there = by (where_is s rest f linked apart there)
    where
      by : WhereIs s rest f → f ≡ first_end s
      by (at_first k) = k
      by (at_last k) = absurd (m.two (last_end (last_of s rest)) f joined (sym (ap stroke_of k)))
      by (inner i) =
          absurd
          (i.not_last (one_partner i.other (last_end (last_of s rest)) f (m.back f i.other i.joined) joined))

  pub comes_round : (s : Step) (rest : List Step) (f : End) → AreLinked joints s rest → AreApart (strokes_of (s ∷ rest)) → partner joints (first_end s) ≡ Some f
      → IsAmong (strokes_of (s ∷ rest)) f.stroke → f ≡ last_end (last_of s rest)
  comes_round s rest f linked apart joined there = by (where_is s rest f linked apart there)
    where
      by : WhereIs s rest f → f ≡ last_end (last_of s rest)
      by (at_first k) = absurd (m.two (first_end s) f joined (sym (ap stroke_of k)))
      by (at_last k) = k
      by (inner i) = absurd (i.not_first (one_partner i.other (first_end s) f (m.back f i.other i.joined) joined))
