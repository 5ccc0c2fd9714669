-- The files that are made of a drawing, one after the other.
use Rattle.std.proofs.Common.{◌≡◌, ℕ, zero, suc, ◌+◌, List, [], ◌∷◌, ◌++◌, length, take, map, Option, Some, None, option_map, refl, sym, ap, ◌∙◌, arith}
use Rattle.std.specs.Prelude.{slice_get, unwrap_or}
use Rattle.std.proofs.lemmas.List.{map_more, map-append, length-map, length-take-le}
use Rattle.std.proofs.lemmas.Option.{get_or_from_slice_get, slice_get_within}
use Rattle.plot_rack.specs.Plotters.{Plot, text_of}
use Rattle.draw_core.specs.inner.Made.{AreOutputs, file_seen, file_of_plot}
use Rattle.draw_core.specs.Outputs.{File, plot_name, place_of}
use Rattle.draw_core.specs.declared.outputs.Output.{Output}

-- numbers that count on
count_on : {A : Type 0} (f : A → Option ℕ) (m : ℕ) (xs : List A) (y : A) → ((k : ℕ) (x : A) → slice_get xs k ≡ Some x → f x ≡ Some (m + k)) → f y ≡ Some (m + length xs)
    → (k : ℕ) (x : A) → slice_get (xs ++ y ∷ []) k ≡ Some x → f x ≡ Some (m + k)
count_on f m [] y each last zero x here = let same : y ≡ x = cc in sym (ap f same) ∙ last
count_on f m [] y each last (suc k) x here = absurd (cc)
count_on f m (z ∷ zs) y each last zero x here = each zero x here
count_on f m (z ∷ zs) y each last (suc k) x here =
    let moved : (n : ℕ) → m + suc n ≡ suc m + n = λ n. omega arith in
    let later : (j : ℕ) (w : _) → slice_get zs j ≡ Some w → f w ≡ Some (suc m + j) = λ j w at. each (suc j) w at ∙ ap Some (moved j) in
    count_on f (suc m) zs y later (last ∙ ap Some (moved (length zs))) k x here ∙ ap Some (sym (moved k))

module _ {B : Type 0} (plot_of : B → Plot) (out text : List ℕ) (boxes : List B) where
  -- one plotter's file more
  pub outputs_more : (i : ℕ) (b : B) (o : Output) (outputs new : List Output) → AreOutputs plot_of out text (take i boxes) outputs → slice_get boxes i ≡ Some b
      → place_of o.target ≡ Some (i + 1) → plot_name out (plot_of b).suffix ≡ o.name → text_of (plot_of b) ≡ Some o.bytes.items → new ≡ outputs ++ o ∷ []
      → AreOutputs plot_of out text (take (i + 1) boxes) new
  outputs_more i b o outputs new done here place name bytes grown =
      let within = slice_get_within boxes i b here in
      let same : file_seen o ≡ file_of_plot out (plot_of b) = (λ j. (sym name j, unwrap_or (sym bytes j) [])) in
      let more = map_more (λ (x : B). file_of_plot out (plot_of x)) boxes i b within
      ∙ ap (λ (x : B). map (λ (y : B). file_of_plot out (plot_of y)) (take i boxes) ++ file_of_plot out (plot_of x) ∷ []) (get_or_from_slice_get boxes i b b here) in
      let taken : length (map (λ (x : B). file_of_plot out (plot_of x)) (take i boxes)) ≡ i =
      length-map (take i boxes) (λ (x : B). file_of_plot out (plot_of x)) ∙ length-take-le i boxes (omega arith) in
      let many : length outputs ≡ suc i = sym (length-map outputs file_seen) ∙ ap (length {A = File}) done.files ∙ ap suc taken in
      record {
        files = ap (map file_seen) grown ∙ map-append file_seen outputs (o ∷ []) ∙ (λ j. done.files j ++ same j ∷ []) ∙ (λ j. (out, text) ∷ sym more j);
        places = λ k x at.
            let from_0 : (n : ℕ) → n ≡ 0 + n = λ n. omega arith in
            let each : (n : ℕ) (y : Output) → slice_get outputs n ≡ Some y → place_of y.target ≡ Some (0 + n) = λ n y there. done.places n y there ∙ ap Some (from_0 n) in
            let end : i + 1 ≡ 0 + length outputs = omega (arith, many) in
            count_on (λ (y : Output). place_of y.target) 0 outputs o each (place ∙ ap Some end) k x (ap (λ (xs : List Output). slice_get xs k) (sym grown) ∙ at)
            ∙ ap Some (sym (from_0 k));
      }

  pub outputs_next : (i : ℕ) (o : Output) (outputs new : List Output) → AreOutputs plot_of out text (take i boxes) outputs → place_of o.target ≡ Some (i + 1)
      → option_map (λ b. plot_name out (plot_of b).suffix) (slice_get boxes i) ≡ Some o.name → option_map (λ b. text_of (plot_of b)) (slice_get boxes i) ≡ Some (Some o.bytes.items)
      → new ≡ outputs ++ o ∷ [] → AreOutputs plot_of out text (take (i + 1) boxes) new
  outputs_next i o outputs new done place name bytes grown = go (slice_get boxes i) refl name bytes
    where
      go : (found : Option B) → slice_get boxes i ≡ found → option_map (λ (b : B). plot_name out (plot_of b).suffix) found ≡ Some o.name
          → option_map (λ (b : B). text_of (plot_of b)) found ≡ Some (Some o.bytes.items) → AreOutputs plot_of out text (take (i + 1) boxes) new
      go None is named told = absurd (cc)
      go (Some b) is named told =
          let name_is : plot_name out (plot_of b).suffix ≡ o.name = cc in
          let bytes_are : text_of (plot_of b) ≡ Some o.bytes.items = cc in
          outputs_more i b o outputs new done is place name_is bytes_are grown
