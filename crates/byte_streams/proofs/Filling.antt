-- What a pull adds to a buffer.
use Rattle.std.proofs.Common.{ℕ, ◌+◌, ◌<◌, ◌≤◌, ◌≡◌, not, eqb, List, ◌++◌, length, take, drop, Ok, refl, sym, ap, ◌∙◌, arith, append-nil, length-append, length-take, length-drop}
use Rattle.std.proofs.Math.Seq.{take-append-add}
use Rattle.std.proofs.lemmas.Bool.Decides.{nat_tests}
use Rattle.std.proofs.lemmas.List.{take-append-drop, take_at, drop-append-le}
use Rattle.std.proofs.lemmas.List.Folds.{prefix_len-append}
use Rattle.std.proofs.lemmas.List.Sums.{prefix_len-le-length}
use Rattle.byte_streams.specs.declared.buffer.TheConstants.{PULL_SIZE}
use Rattle.byte_streams.specs.declared.stream.Pulled.{Pulled}
use Rattle.byte_streams.specs.declared.stream.Pulled.TheVariants as pulled
use Rattle.byte_streams.specs.Stream.{SourceState, PullDid}
use Rattle.byte_streams.specs.Buffered.{line_length, IsScanned, IsOnePull, FillDid, pulled_count}

-- bytes at the end don't shorten the first line
pub line_length_grows : (xs ys : List ℕ) → line_length xs ≤ line_length (xs ++ ys)
line_length_grows xs ys = grind (arith, nat_tests, prefix_len-append (λ b. not (eqb b 10)) xs ys, prefix_len-le-length (λ b. not (eqb b 10)) xs)

-- what stands after a pull of so many bytes
pub fill_items : (items block mid : List ℕ) (count : ℕ) → take (length items) mid ≡ take (length items) (items ++ block) →
    take (length items + count) mid ≡ items ++ take count (drop (length items) mid)
fill_items items block mid count same =
    let front : take (length items) mid ≡ items = same ∙ take_at items block (length items) refl in
    let whole : mid ≡ items ++ drop (length items) mid = sym (take-append-drop (length items) mid) ∙ ap (λ t. t ++ drop (length items) mid) front in
    ap (take (length items + count)) whole ∙ take-append-add items (drop (length items) mid) count

pub fill_scanned : (items block mid : List ℕ) (count start scanned : ℕ) → take (length items) mid ≡ take (length items) (items ++ block) →
    IsScanned items start scanned → IsScanned (take (length items + count) mid) start scanned
fill_scanned items block mid count start scanned same h =
    rw (fill_items items block mid count same) (
      omega (arith, h.0, length-append items (take count (drop (length items) mid))),
      rw (drop-append-le start items (take count (drop (length items) mid)) h.0) (omega (arith, h.1, line_length_grows (drop start items) (take count (drop (length items) mid)))),
    )

-- the bytes not yet used, before and after it
fill_view : (items block mid : List ℕ) (count start : ℕ) → take (length items) mid ≡ take (length items) (items ++ block) → start ≤ length items →
    drop start (take (length items + count) mid) ≡ drop start items ++ take count (drop (length items) mid)
fill_view items block mid count start same within =
    ap (drop start) (fill_items items block mid count same) ∙ drop-append-le start items (take count (drop (length items) mid)) within

-- a pull into room for one gives no more than one
fill_pull : (items block mid : List ℕ) (count : ℕ) → length mid ≡ length (items ++ block) → length block ≡ PULL_SIZE → 0 < count → count ≤ length (drop (length items) mid) →
    IsOnePull (take count (drop (length items) mid))
fill_pull items block mid count same size some most =
    let room : length (drop (length items) mid) ≡ PULL_SIZE = omega (arith, length-drop (length items) mid, length-append items block, same, size) in
    (omega (arith, length-take count (drop (length items) mid)), omega (arith, length-take count (drop (length items) mid)))

pub fill_did : (E : Type 0) (result : Pulled) (items block mid : List ℕ) (start : ℕ) (source source' : SourceState) → start ≤ length items →
    length block ≡ PULL_SIZE → length mid ≡ length (items ++ block) → take (length items) mid ≡ take (length items) (items ++ block) → PullDid result (drop (length items) mid) source source' →
    FillDid {E = E} (Ok result) (drop start items) (drop start (take (length items + pulled_count result) mid)) source source'
fill_did E (pulled.Got n) items block mid start source source' within size same front h =
    (take n (drop (length items) mid), fill_pull items block mid n same size h.0 h.1, fill_view items block mid n start front within, h.2)
fill_did E pulled.End items block mid start source source' within size same front h =
    (fill_view items block mid 0 start front within ∙ append-nil (drop start items), h.0, h.1)
fill_did E pulled.Failed items block mid start source source' within size same front h =
    (fill_view items block mid 0 start front within ∙ append-nil (drop start items), h)

-- the same, for what the steps of a fill are called
pub fill_whole : (E : Type 0) (result : Pulled) (old items more block mid new : List ℕ) (end count start : ℕ) (source source' : SourceState) →
    drop start items ≡ old → end ≡ length items → more ≡ items ++ block → count ≡ pulled_count result → new ≡ take (end + count) mid → start ≤ length items →
    length block ≡ PULL_SIZE → length mid ≡ length more → take end mid ≡ take end more → PullDid result (drop end mid) source source' → FillDid {E = E} (Ok result) old (drop start new) source source'
fill_whole E result old items more block mid new end count start source source' is_old is_end is_more is_count is_new within size same front h =
    rw (← is_old, is_new, is_count, is_end) (fill_did E result items block mid start source source' within size (rw is_more at same) (rw (is_end, is_more) at front) (rw is_end at h))

pub fill_keeps : (items more block mid new : List ℕ) (end count start scanned : ℕ) → end ≡ length items → more ≡ items ++ block → new ≡ take (end + count) mid →
    IsScanned items start scanned → take end mid ≡ take end more → IsScanned new start scanned
fill_keeps items more block mid new end count start scanned is_end is_more is_new scan front =
    rw (is_new, is_end) (fill_scanned items block mid count start scanned (rw (is_end, is_more) at front) scan)
