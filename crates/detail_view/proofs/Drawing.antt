-- What is left where a detail is drawn and its page is kept.
use Rattle.std.proofs.Common.{◌≡◌, ℕ, List, Option, Some, None, refl, sym, subst}
use Rattle.std.specs.Prelude.{Result, Ok, IfSome, is_some, false, Vec}
use Rattle.std.specs.declared.alloc.Global.{Global}
use Rattle.std.proofs.lemmas.Option.{none-some}
use Rattle.desk.specs.Files.{Files, DeskState}
use Rattle.lattice.specs.declared.pieces.Piece.{Piece}
use Rattle.detail_view.specs.Drawn.{IsDrawnOf, IsDrawnBy, pieces_told, HasDetail, LeavesDrawn, KeepsPage}
use Rattle.detail_view.specs.Run.{Given, Details, OnlyAsked}
use Rattle.detail_view.specs.Seen.{detail_seen}
use Rattle.detail_view.specs.Words.{Detail, Asked, checks, details}
use Rattle.detail_view.specs.declared.detail.Shown.{Shown}
use Rattle.detail_view.specs.declared.words.DetailWords.{DetailWords}
use Rattle.detail_view.specs.declared.fault.PiecesFault.{PiecesFault}
use Rattle.detail_view.specs.declared.fault.PiecesFault.TheVariants.{WriteFault, Memory}
use Rattle.detail_view.specs.inner.Drawing.{LeavesPage, TellsPieces}
use Rattle.detail_view.specs.inner.Judging.{IsOfSaying}
use Rattle.detail_view.specs.inner.Showing.{given_of}

-- ---- the page
module _ (IsLike : List Piece → List ℕ → Type 0) (name : List ℕ) (old new : Files) where
  -- it is kept as its fault says, and the pieces are told with it
  pub page_left : (pieces : List Piece) (page : List ℕ) → IsLike pieces page → (fault : Option PiecesFault) (told : Option (List Piece)) → IfSome fault IsOfSaying
      → TellsPieces pieces fault told → LeavesPage fault old new name page → LeavesDrawn IsLike name fault told old new
  page_left pieces page is None told h e leaves = subst (λ (o : Option (List Piece)). LeavesDrawn IsLike name None o old new) (sym e) (page, is, leaves)
  page_left pieces page is (Some WriteFault) told h e leaves =
      subst (λ (o : Option (List Piece)). LeavesDrawn IsLike name (Some WriteFault) o old new) (sym e) (page, is, leaves)
  page_left pieces page is (Some Memory) told h e leaves = leaves
  page_left pieces page is (Some fault) told h e leaves = elim h [ ]

  -- what is like this is like that
  module _ (IsAlso : List Piece → List ℕ → Type 0) (also : (pieces : List Piece) (page : List ℕ) → IsLike pieces page → IsAlso pieces page) where
    pub left_also : (fault : Option PiecesFault) (told : Option (List Piece)) → IfSome fault IsOfSaying → LeavesDrawn IsLike name fault told old new → LeavesDrawn IsAlso name fault told old new
    left_also None (Some pieces) h (page, is, leaves) = (page, also pieces page is, leaves)
    left_also None None h leaves = leaves
    left_also (Some WriteFault) (Some pieces) h (page, is, leaves) = (page, also pieces page is, leaves)
    left_also (Some WriteFault) None h leaves = leaves
    left_also (Some Memory) told h leaves = leaves
    left_also (Some fault) told h leaves = elim h [ ]

  -- without pieces nothing is kept
  pub nothing_left : (fault : Option PiecesFault) (told : Option (List Piece)) → told ≡ None → new ≡ old → LeavesDrawn IsLike name fault told old new
  nothing_left None None e h = h
  nothing_left (Some WriteFault) None e h = h
  nothing_left (Some fault) None e h = h
  nothing_left fault (Some pieces) e h = absurd (none-some pieces (sym e))

pub nothing_kept : (asked : Option Asked) (fault : Option PiecesFault) (told : Option (List Piece)) (old new : Files) → told ≡ None → new ≡ old → KeepsPage asked fault told old new
nothing_kept None fault told old new e h = h
nothing_kept (Some (checks c)) fault told old new e h = h
nothing_kept (Some (details w)) fault told old new e h = nothing_left (IsDrawnBy (Details old w) w) w.out old new fault told e h

-- where the desk stands, nothing was done that wasn't asked for
pub nothing_asked : (asked : Option Asked) (desk : DeskState) → OnlyAsked asked desk desk
nothing_asked None desk = refl
nothing_asked (Some (checks c)) desk = refl
nothing_asked (Some (details w)) desk = refl

-- ---- the pieces
pub no_detail : (asked : Option Asked) (fault : Option PiecesFault) (detail : Option (Vec Piece Global)) → fault ≡ Some Memory → detail ≡ None → HasDetail asked fault (is_some detail)
no_detail asked fault detail e none =
    subst (λ (o : Option PiecesFault). HasDetail asked o (is_some detail)) (sym e) (subst (λ (o : Option (Vec Piece Global)). HasDetail asked (Some Memory) (is_some o)) (sym none) (by asked))
  where
    by : (o : Option Asked) → HasDetail o (Some Memory) false
    by None = refl
    by (Some (checks c)) = refl
    by (Some (details w)) = refl

pub detail_there : (w : Detail) (pieces : List Piece) (fault : Option PiecesFault) (detail : Option (Vec Piece Global)) → IfSome fault IsOfSaying → TellsPieces pieces fault (pieces_told detail)
    → HasDetail (Some (details w)) fault (is_some detail)
detail_there w pieces None (Some drawn) h e = refl
detail_there w pieces None None h e = absurd (none-some pieces e)
detail_there w pieces (Some WriteFault) (Some drawn) h e = refl
detail_there w pieces (Some WriteFault) None h e = absurd (none-some pieces e)
detail_there w pieces (Some Memory) (Some drawn) h e = absurd (none-some drawn.items (sym e))
detail_there w pieces (Some Memory) None h e = refl
detail_there w pieces (Some fault) detail h e = elim h [ ]

-- drawn from what the steps gave
module _ (steps : Result Given PiecesFault → Type 0) (words : DetailWords) (shown : Shown) (given : steps (Ok (given_of shown))) where
  pub drawn_by : (pieces : List Piece) (page : List ℕ) → IsDrawnOf shown.job shown.solid words.view words.window words.scale pieces page → IsDrawnBy steps (detail_seen words) pieces page
  drawn_by pieces page is = record {
    job = shown.job;
    solid = shown.solid;
    given = given;
    o = words.window;
    is_window = refl;
    scale = words.scale;
    is_scale = refl;
    drawn = is;
  }
