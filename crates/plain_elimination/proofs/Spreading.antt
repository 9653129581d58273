-- Rows spread into plain ones.
use Rattle.std.proofs.Common.{ℕ, Global, ◌≡◌, ◌+◌, ◌<◌, ◌≤◌, List, [], Vec, vec_len, length, take, get_or, set, replicate, sym, ap, ap₂, ◌∙◌, arith}
use Rattle.std.proofs.lemmas.List.{take_more, take_all, length-take-le, length-replicate, get_or-take, get_or-replicate}
use Rattle.residue_words.specs.Matrix.{Matrix, IsMatrix, row, zeros}
use Rattle.residue_words.proofs.Vectors.{length_list_of, at_list_of, list_equal}
use Rattle.sparse_rows.specs.Rows.{support, nonzeros}
use Rattle.sparse_rows.specs.Stored.{IsSparse, spread}
use Rattle.sparse_rows.proofs.Spread.{length_spread, spread_none, spread_push, spread_support, support_sparse}

-- so many zeros are a row of zeros
pub spread_zeros : (n : ℕ) (v : List ℕ) → v ≡ replicate n 0 → v ≡ spread n [] []
spread_zeros n v e = e ∙ list_equal n (replicate n 0) (zeros n) (length-replicate n 0) (length_list_of n (λ j. 0)) (λ j l. get_or-replicate n j 0 0 l ∙ sym (at_list_of n (λ k. 0) j l))
    ∙ sym (spread_none n [])

-- the first k entries of a row stand before the one at k
first_sparse : (p n k : ℕ) (cs vs : List ℕ) → IsSparse p n cs vs → k < length cs → IsSparse p (get_or cs k 0) (take k cs) (take k vs)
first_sparse p n k cs vs s less =
    let c : length (take k cs) ≡ k = length-take-le k cs (omega arith) in
    let v : length (take k vs) ≡ k = length-take-le k vs (omega (arith, s.long)) in record {
      long = c ∙ sym v;
      rising = λ i t b l. rw (get_or-take k cs i 0 (omega arith), get_or-take k cs t 0 (omega arith)) (s.rising i t b (omega arith));
      below = λ i l. rw (get_or-take k cs i 0 (omega arith)) (s.rising i k (omega arith) less);
      positive = λ i l. rw (get_or-take k vs i 0 (omega arith)) (s.positive i (omega (arith, s.long)));
      residues = λ i l. rw (get_or-take k vs i 0 (omega arith)) (s.residues i (omega (arith, s.long)));
    }

-- the row that these columns and values are of
of_row : (p i : ℕ) (A : Matrix) (cs vs : List ℕ) → IsMatrix p A → i < A.height → cs ≡ support (row A i) → vs ≡ nonzeros (row A i) → IsSparse p A.width cs vs
of_row p i A cs vs is less e f = rw (e, f) (support_sparse (is.each i less))

-- one entry more
pub spread_next : (p i k : ℕ) (A : Matrix) (cs vs old : List ℕ) → IsMatrix p A → i < A.height → cs ≡ support (row A i) → vs ≡ nonzeros (row A i) → k < length cs →
    old ≡ spread A.width (take k cs) (take k vs) → set old (get_or cs k 0) (get_or vs k 0) ≡ spread A.width (take (k + 1) cs) (take (k + 1) vs)
spread_next p i k A cs vs old is less e f here is_old =
    let s = of_row p i A cs vs is less e f in
    ap (λ r. set r (get_or cs k 0) (get_or vs k 0)) is_old
    ∙ sym (ap₂ (spread A.width) (take_more cs k 0 here) (take_more vs k 0 (omega (arith, s.long)))
    ∙ spread_push (first_sparse p A.width k cs vs s here) A.width (get_or vs k 0) (s.below k here))

-- the column of an entry is a place of the plain row
pub spread_place : (n c : ℕ) (cs vs : List ℕ) (v : Vec ℕ Global) → v.items ≡ spread n cs vs → c < n → c < vec_len v
spread_place n c cs vs v e less = omega (arith, ap length e ∙ length_spread n cs vs, v.ok)

-- all entries
pub spread_all : (p i k : ℕ) (A : Matrix) (cs vs v : List ℕ) → IsMatrix p A → i < A.height → cs ≡ support (row A i) → vs ≡ nonzeros (row A i) → length cs ≤ k →
    v ≡ spread A.width (take k cs) (take k vs) → v ≡ row A i
spread_all p i k A cs vs v is less e f past is_v =
    let s = of_row p i A cs vs is less e f in
    is_v ∙ ap₂ (spread A.width) (take_all k cs past ∙ e) (take_all k vs (omega (arith, s.long)) ∙ f) ∙ spread_support A.width (row A i) (is.each i less).len
