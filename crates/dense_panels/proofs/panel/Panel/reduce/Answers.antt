use Rattle.std.proofs.Common.{[], ◌≡◌, ◌<◌, ◌∙◌, ap, arith, length, slice_index, subst}
use Rattle.std.proofs.lemmas.List.{get_or_default, take_all}
use Rattle.dense_rows.specs.Rows.{block_row}
use Rattle.dense_rows.specs.Dense.{TakesOut}
use Rattle.dense_panels.specs.Panel.{PanelReduces, PanelRows}
use Rattle.dense_panels.proofs.Splitting.{reduces_more, reduces_none}
use Rattle.dense_panels.proofs.panel.Panel.reduce.Goals as goal

pub loop-k-init : goal.loop-k-init
loop-k-init g c = reduces_none c.args.self.now c.requires.residues

pub take_out-requires-clause-inside : goal.take_out-requires-clause-inside
take_out-requires-clause-inside g c κs within =
    let panel = c.args.self.now in
    let columns = c.self.inside.columns in
    let k = c.loop-k.k in
    let same : columns.items ≡ panel.columns = ap (λ (m : PanelRows). m.columns) c.self.view_is in
    let inside : k < length panel.columns = omega (arith, columns.ok.0, ap length same) in
    let column : c.index.result.now ≡ slice_index panel.columns k = c.index.ensures ∙ get_or_default columns.items k _ 0 (omega (arith, columns.ok.0)) ∙ ap (λ l. slice_index l k) same in
    omega (arith, column, c.requires.pivots.inside k inside, c.loop-k.invariant.vector.len)

pub take_out-requires-clause-residues : goal.take_out-requires-clause-residues
take_out-requires-clause-residues g c κs within = rw c.loop-k.invariant.vector.len c.loop-k.invariant.vector

pub take_out-requires-clause-pivot : goal.take_out-requires-clause-pivot
take_out-requires-clause-pivot g c κs within =
    let panel = c.args.self.now in
    let fields = c.self.inside in
    let k = c.loop-k.k in
    let same : fields.columns.items ≡ panel.columns = ap (λ (m : PanelRows). m.columns) c.self.view_is in
    let inside : k < length panel.columns = omega (arith, fields.columns.ok.0, ap length same) in
    let rows : fields.rows.items ≡ panel.rows = ap (λ (m : PanelRows). m.rows) c.self.view_is in
    let read : c.index-in-loop-k.result.now ≡ block_row panel.rows k =
    c.index-in-loop-k.ensures ∙ get_or_default fields.rows.items k _ [] (omega (arith, ap length rows, c.requires.pivots.long)) ∙ ap (λ l. block_row l k) rows in
    rw (c.loop-k.invariant.vector.len, read) (c.requires.pivots.vectors k inside)

pub take_out-requires-clause-before : goal.take_out-requires-clause-before
take_out-requires-clause-before g c κs within = λ j l.
    let panel = c.args.self.now in
    let fields = c.self.inside in
    let k = c.loop-k.k in
    let same : fields.columns.items ≡ panel.columns = ap (λ (m : PanelRows). m.columns) c.self.view_is in
    let inside : k < length panel.columns = omega (arith, fields.columns.ok.0, ap length same) in
    let column : c.index.result.now ≡ slice_index panel.columns k = c.index.ensures ∙ get_or_default fields.columns.items k _ 0 (omega (arith, fields.columns.ok.0)) ∙ ap (λ l. slice_index l k) same in
    let rows : fields.rows.items ≡ panel.rows = ap (λ (m : PanelRows). m.rows) c.self.view_is in
    let read : c.index-in-loop-k.result.now ≡ block_row panel.rows k =
    c.index-in-loop-k.ensures ∙ get_or_default fields.rows.items k _ [] (omega (arith, ap length rows, c.requires.pivots.long)) ∙ ap (λ l. block_row l k) rows in
    ap (λ v. slice_index v j) read ∙ c.requires.pivots.before k j inside (omega arith)

pub loop-k-preserved : goal.loop-k-preserved
loop-k-preserved g c =
    let panel = c.args.self.now in
    let fields = c.self.inside in
    let k = c.loop-k.k in
    let same : fields.columns.items ≡ panel.columns = ap (λ (m : PanelRows). m.columns) c.self.view_is in
    let inside : k < length panel.columns = omega (arith, fields.columns.ok.0, ap length same) in
    let column : c.index.result.now ≡ slice_index panel.columns k = c.index.ensures ∙ get_or_default fields.columns.items k _ 0 (omega (arith, fields.columns.ok.0)) ∙ ap (λ l. slice_index l k) same in
    let rows : fields.rows.items ≡ panel.rows = ap (λ (m : PanelRows). m.rows) c.self.view_is in
    let read : c.index-in-loop-k.result.now ≡ block_row panel.rows k =
    c.index-in-loop-k.ensures ∙ get_or_default fields.rows.items k _ [] (omega (arith, ap length rows, c.requires.pivots.long)) ∙ ap (λ l. block_row l k) rows in
    let out : TakesOut c.args.p.now (slice_index panel.columns k) (block_row panel.rows k) c.loop-k.row c.take_out.new.self =
    rw (← column, ← read) c.take_out.ensures in
    reduces_more panel k inside c.loop-k.invariant out

pub returns : goal.returns
returns g c =
    let panel = c.args.self.now in
    let columns = c.self.inside.columns in
    let same : columns.items ≡ panel.columns = ap (λ (m : PanelRows). m.columns) c.self.view_is in
    subst (λ columns. PanelReduces c.args.p.now (record { width = panel.width; columns = columns; rows = panel.rows }) c.args.row.now c.loop-k.row)
    (take_all c.loop-k.k panel.columns (omega (arith, columns.ok.0, ap length same))) c.loop-k.invariant
