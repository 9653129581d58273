use Rattle.std.proofs.Common.{◌≡◌, ◌∙◌, ap, arith, false, length, refl, slice_index_or, sym, true}
use Rattle.std.proofs.lemmas.List.{get_or-replicate, length-replicate}
use Rattle.dense_finish.proofs.pivots.Pivots.new.Goals as goal

pub returns-clause-found : goal.returns-clause-found
returns-clause-found c =
    let matrix = c.in_ok-with_room.ensures.matrix in
    let none : length c.new-2.result.items ≡ 0 = ap length c.new-2.ensures.items in
    let taken = c.in_ok-vec.ensures.items_if_clones_equal (λ y e. e) in
    record {
      modulus = c.in_ok-with_room.ensures.modulus;
      matrix = rw matrix record { len = refl; each = λ i l. absurd (omega arith) };
      wide = ap (λ A. A.width) matrix;
      height = ap (λ A. A.height) matrix ∙ sym none;
      long = ap length c.new.ensures.items ∙ sym none;
      few = omega (arith, none);
      inside = λ k l. absurd (omega (arith, none));
      rising = λ k t less l. absurd (omega (arith, none));
      steps = record { inside = λ k l. absurd (omega (arith, none)); one = λ k l. absurd (omega (arith, none)); later = λ k t less l. absurd (omega (arith, none)) };
      unnamed = λ k x l inside other. absurd (omega (arith, none));
      marks = ap length taken ∙ length-replicate (length c.args.columns.now) false;
      marked = λ k l. absurd (omega (arith, none));
      only = λ j l marked.
          let no : true ≡ false = sym marked ∙ ap (λ marks. slice_index_or marks j false) taken ∙ get_or-replicate (length c.args.columns.now) j false false l in
          cc;
    }

pub returns-clause-none : goal.returns-clause-none
returns-clause-none c = ap length c.new-2.ensures.items
