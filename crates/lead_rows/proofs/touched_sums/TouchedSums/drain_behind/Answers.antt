use Rattle.std.proofs.Common.{ℕ, ◌≡◌, ◌<◌, ◌+◌, ◌%◌, ◌∙◌, [], ◌∷◌, ◌++◌, Bool, List, append-nil, eqb, if◌then◌else◌, not, length, ap, subst, sym, arith}
use Rattle.std.proofs.lemmas.List.{get_or_default, length_push}
use Rattle.sparse_rows.specs.Rows.{ResidueRow}
use Rattle.lead_rows.specs.Scattered.{IsScattered}
use Rattle.lead_rows.proofs.Accumulating.{cleared, residues_length, residues_none}
use Rattle.lead_rows.proofs.Gathering.{behind_if, gathering_all, gathering_next, gathering_none, touched_last, touched_less, touched_none}
use Rattle.lead_rows.proofs.touched_sums.TouchedSums.drain_behind.Goals as goal

pub loop-column-init : goal.loop-column-init
loop-column-init c = record {
  modulus = ap (λ (r : ResidueRow). r.modulus) c.self.view_is;
  sound = c.self.invariant;
  room = omega (arith, c.in_ok-reserve.ensures.ok, c.len.ensures, c.self.inside.touched.ok.0);
  room_values = omega (arith, c.in_ok-reserve-2.ensures.ok, c.len-2.ensures, c.self.inside.touched.ok.0);
  columns = [];
  values = [];
  all_columns = c.in_ok-reserve.ensures.items ∙ sym (append-nil c.args.cols.now.items);
  all_values = c.in_ok-reserve-2.ensures.items ∙ sym (append-nil c.args.vals.now.items);
  gathered = gathering_none (ap (λ (r : ResidueRow). r.row) c.self.view_is);
}

pub loop-column-preserved : goal.loop-column-preserved
loop-column-preserved c =
    let inv = c.loop-column.invariant in
    let sums : List ℕ = c.loop-column.self-inside.sums.items in
    let inside : c.in-Some.column < length sums = touched_last c.pop.new.self.items inv.sound c.in-Some.ensures.items in
    let fewer : length c.loop-column.self-inside.touched.items ≡ length c.pop.new.self.items + 1 = ap length c.in-Some.ensures.items ∙ length_push _ _ in
    let stays : Bool = not (eqb c.residue_of-value.result 0) in
    record {
      modulus = inv.modulus;
      sound = touched_less c.in-Some.column c.pop.new.self.items inv.sound c.in-Some.ensures.items;
      room = omega (arith, inv.room, fewer, c.push_if.ensures.len, c.push_if.ensures.capacity);
      room_values = omega (arith, inv.room_values, fewer, c.push_if-in-Some.ensures.len, c.push_if-in-Some.ensures.capacity);
      columns = if stays then inv.columns ++ c.in-Some.column ∷ [] else inv.columns;
      values = if stays then inv.values ++ c.residue_of-value.result ∷ [] else inv.values;
      all_columns = behind_if c.args.cols.now.items inv.columns c.in-Some.column stays inv.all_columns c.push_if.ensures.items;
      all_values = behind_if c.args.vals.now.items inv.values c.residue_of-value.result stays inv.all_values c.push_if-in-Some.ensures.items;
      gathered = gathering_next sums (omega (arith, inv.sound.limited.two_or_more)) inv.gathered inside
          (c.residue_of-value.ensures.value ∙ ap (λ x. x % c.loop-column.self-inside.modulus) (c.index.ensures ∙ get_or_default sums _ _ 0 inside));
    }

pub returns-clause-clear : goal.returns-clause-clear
returns-clause-clear c =
    let inv = c.loop-column.invariant in
    let none = touched_none inv.sound (omega (arith, c.in_default.ensures.cases.0, c.loop-column.self-inside.touched.ok.0)) in
    cleared c.args.self.now inv.sound.limited none inv.modulus (omega (arith, residues_length c.loop-column.self-inside.modulus c.loop-column.self-inside.sums.items, inv.gathered.wide))

pub returns-clause-listed : goal.returns-clause-listed
returns-clause-listed c =
    let inv = c.loop-column.invariant in
    let none = touched_none inv.sound (omega (arith, c.in_default.ensures.cases.0, c.loop-column.self-inside.touched.ok.0)) in
    record {
      columns = inv.columns;
      values = inv.values;
      scattered = subst (λ m. IsScattered m (length c.args.self.now.row) inv.columns inv.values) inv.modulus inv.gathered.scattered;
      row = gathering_all inv.gathered (residues_none inv.sound.limited none);
      all_columns = inv.all_columns;
      all_values = inv.all_values;
    }

pub index-requires : goal.index-requires
index-requires c = omega (arith, touched_last c.pop.new.self.items c.loop-column.invariant.sound c.in-Some.ensures.items, c.loop-column.self-inside.sums.ok.0)

pub index_mut-requires : goal.index_mut-requires
index_mut-requires c = omega (arith, touched_last c.pop.new.self.items c.loop-column.invariant.sound c.in-Some.ensures.items, c.loop-column.self-inside.sums.ok.0)

pub residue_of-value-requires : goal.residue_of-value-requires
residue_of-value-requires c =
    let sums : List ℕ = c.loop-column.self-inside.sums.items in
    let sound = c.loop-column.invariant.sound in
    let inside : c.in-Some.column < length sums = touched_last c.pop.new.self.items sound c.in-Some.ensures.items in
    omega (arith, c.index.ensures ∙ get_or_default sums _ _ 0 inside, sound.limited.below c.in-Some.column inside)

pub push_if-requires : goal.push_if-requires
push_if-requires c = omega (arith, c.loop-column.invariant.room, ap length c.in-Some.ensures.items, length_push c.pop.new.self.items c.in-Some.column)

pub push_if-requires-in-Some : goal.push_if-requires-in-Some
push_if-requires-in-Some c = omega (arith, c.loop-column.invariant.room_values, ap length c.in-Some.ensures.items, length_push c.pop.new.self.items c.in-Some.column)
