-- Entries that stand for right pieces are good, and entries that do not differ from them: there is one right list only.
use Rattle.std.proofs.Common.{◌≡◌, ℕ, zero, suc, List, [], ◌∷◌, slice_get, refl, sym, ◌∙◌}
use Rattle.std.specs.Prelude.{ℤ, pos, ◌*ℤ◌, ◌<ℤ◌}
use Rattle.std.specs.List.{AllZip}
use Rattle.integers.proofs.Orders.{same_through}
use Rattle.exact_frac.specs.declared.Frac.{Frac}
use Rattle.lattice.specs.Points.{of_spot, across_of, upward_of}
use Rattle.lattice.specs.Triple.{Triple}
use Rattle.lattice.specs.declared.pieces.Piece.{Piece}
use Rattle.lattice.specs.declared.pieces.Style.{Style}
use Rattle.lattice.specs.declared.pieces.Style.TheVariants as style
use Rattle.lattice.specs.declared.pieces.ViewSpec.{ViewSpec}
use Rattle.job_file.specs.Seen.{direction_seen}
use Rattle.job_file.specs.declared.job.Job.{Job}
use Rattle.sheet_plan.specs.Sheets.{mark_of, HasValue}
use Rattle.solid_mesh.specs.declared.solid.Solid.{Solid}
use Rattle.drawing_laws.specs.Alike.{AreAlike}
use Rattle.piece_verify.specs.Checked.{IsRightList, IsGoodIn, DiffersAt}
use Rattle.piece_verify.specs.Stands.{StandsFor, AgreeAt}
use Rattle.piece_verify.specs.declared.line.Entry.{Entry}
use Rattle.piece_verify.specs.inner.Comparing.{IsFirstUnlike}

-- ---- one entry
-- a style has its own mark
style_of_mark : (s t : Style) → mark_of s ≡ mark_of t → s ≡ t
style_of_mark style.Solid style.Solid e = refl
style_of_mark style.Solid style.Dashed e = cc
style_of_mark style.Solid style.Chain e = cc
style_of_mark style.Dashed style.Solid e = cc
style_of_mark style.Dashed style.Dashed e = refl
style_of_mark style.Dashed style.Chain e = cc
style_of_mark style.Chain style.Solid e = cc
style_of_mark style.Chain style.Dashed e = cc
style_of_mark style.Chain style.Chain e = refl

-- the value of a ratio is that of an equal one, and ratios of one value are equal
moved_value : (f : Frac) (n w m z : ℤ) → pos 0 <ℤ w → n *ℤ z ≡ m *ℤ w → HasValue f n w → HasValue f m z
moved_value f n w m z positive same h = same_through f.num n m f.den w z positive h same

one_value : (f : Frac) (n w m z : ℤ) → HasValue f n w → HasValue f m z → n *ℤ z ≡ m *ℤ w
one_value f n w m z h k = same_through n f.num m w f.den z f.positive (sym h) k

module _ (d : Triple) where
  stands_on : (e : Entry) (l m : Piece) → StandsFor d e l → AreAlike d l m → StandsFor d e m
  stands_on e l m h k = record {
    mark = h.mark ∙ (λ i. mark_of (k.style i));
    u1 = moved_value e.u1 (across_of d (of_spot l.a)) l.a.w (across_of d (of_spot m.a)) m.a.w l.a.positive k.a.across h.u1;
    v1 = moved_value e.v1 (upward_of d (of_spot l.a)) l.a.w (upward_of d (of_spot m.a)) m.a.w l.a.positive k.a.upward h.v1;
    u2 = moved_value e.u2 (across_of d (of_spot l.b)) l.b.w (across_of d (of_spot m.b)) m.b.w l.b.positive k.b.across h.u2;
    v2 = moved_value e.v2 (upward_of d (of_spot l.b)) l.b.w (upward_of d (of_spot m.b)) m.b.w l.b.positive k.b.upward h.v2;
  }

  alike_of : (e : Entry) (l m : Piece) → StandsFor d e l → StandsFor d e m → AreAlike d l m
  alike_of e l m h k = record {
    style = style_of_mark l.style m.style (sym h.mark ∙ k.mark);
    a = record {
      across = one_value e.u1 (across_of d (of_spot l.a)) l.a.w (across_of d (of_spot m.a)) m.a.w h.u1 k.u1;
      upward = one_value e.v1 (upward_of d (of_spot l.a)) l.a.w (upward_of d (of_spot m.a)) m.a.w h.v1 k.v1;
    };
    b = record {
      across = one_value e.u2 (across_of d (of_spot l.b)) l.b.w (across_of d (of_spot m.b)) m.b.w h.u2 k.u2;
      upward = one_value e.v2 (upward_of d (of_spot l.b)) l.b.w (upward_of d (of_spot m.b)) m.b.w h.v2 k.v2;
    };
  }

  -- ---- lists
  all_stand : (es : List Entry) (ls ms : List Piece) → AllZip (StandsFor d) es ls → AllZip (AreAlike d) ls ms → AllZip (StandsFor d) es ms
  all_stand [] [] [] h k = k
  all_stand [] [] (m ∷ ms) h k = absurd k
  all_stand [] (l ∷ ls) ms h k = absurd h
  all_stand (e ∷ es) [] ms h k = absurd h
  all_stand (e ∷ es) (l ∷ ls) [] h k = absurd k
  all_stand (e ∷ es) (l ∷ ls) (m ∷ ms) (h, more) (k, others) = (stands_on e l m h k, all_stand es ls ms more others)

  all_alike : (es : List Entry) (ls ms : List Piece) → AllZip (StandsFor d) es ls → AllZip (StandsFor d) es ms → AllZip (AreAlike d) ls ms
  all_alike [] [] [] h k = k
  all_alike [] [] (m ∷ ms) h k = absurd k
  all_alike [] (l ∷ ls) ms h k = absurd h
  all_alike (e ∷ es) [] ms h k = absurd h
  all_alike (e ∷ es) (l ∷ ls) [] h k = absurd k
  all_alike (e ∷ es) (l ∷ ls) (m ∷ ms) (h, more) (k, others) = (alike_of e l m h k, all_alike es ls ms more others)

  agree_at : (es : List Entry) (ls : List Piece) → AllZip (StandsFor d) es ls → (k : ℕ) → AgreeAt d (slice_get es k) (slice_get ls k)
  agree_at [] [] h k = tt
  agree_at [] (l ∷ ls) h k = absurd h
  agree_at (e ∷ es) [] h k = absurd h
  agree_at (e ∷ es) (l ∷ ls) (h, more) zero = h
  agree_at (e ∷ es) (l ∷ ls) (h, more) (suc k) = agree_at es ls more k

-- ---- verdicts on a view: what is drawn alike is right too, and right lists are drawn alike
module _ (solid : Solid) (job : Job) (spec : ViewSpec)
    (kept : (pieces others : List Piece) → AllZip (AreAlike (direction_seen spec)) pieces others → IsRightList solid job spec pieces → IsRightList solid job spec others)
    (one : (pieces others : List Piece) → IsRightList solid job spec pieces → IsRightList solid job spec others → AllZip (AreAlike (direction_seen spec)) pieces others)
    (given : List Entry) (pieces : List Piece) (right : IsRightList solid job spec pieces) where
  abbrev d : Triple
  d = direction_seen spec

  pub good_of : AllZip (StandsFor d) given pieces → IsGoodIn solid job spec given
  good_of stands = record { some = (pieces, stands); every = λ others also. kept pieces others (all_alike d given pieces others stands also) right }

  stands_of_good : IsGoodIn solid job spec given → AllZip (StandsFor d) given pieces
  stands_of_good good = let (others, stands) = good.some in all_stand d given others pieces stands (one others pieces (good.every others stands) right)

  pub differs_of : (place : ℕ) → IsFirstUnlike d given pieces place → DiffersAt solid job spec given place (slice_get pieces place)
  differs_of place unlike = record {
    pieces = pieces;
    right = right;
    one = λ others also. one pieces others right also;
    agrees = unlike.agrees;
    wanted = refl;
    lacks = unlike.lacks;
    bad = λ good. unlike.lacks (agree_at d given pieces (stands_of_good good) place);
  }
