-- How kept rows are stored, and what reducing a row by them does.
use Rattle.std.specs.Prelude.{◌≡◌, ◌≢◌, ◌<◌, ◌≤◌, ◌+◌, ◌*◌, ◌%◌, ℕ, List, [], ◌∷◌, ◌++◌, Option, Some, None, length, map, slice_index, slice_index_or, slice_set}
use Rattle.residue_words.specs.Residues.{IsPrime}
use Rattle.residue_words.specs.Matrix.{Matrix, IsVector, list_of, row}
use Rattle.residue_words.specs.declared.modulus.TheConstants.{MODULUS_BOUND}
use Rattle.row_space.specs.Rows.{DiffersBy, of_rows}
use Rattle.sparse_rows.specs.ColumnSet.{AllZero}
use Rattle.sparse_rows.specs.Rows.{ResidueRow, LARGEST_SIZE}
use Rattle.sparse_rows.specs.Stored.{spread, with_row}
use Rattle.lead_rows.specs.Accumulator.{IsClear}
use Rattle.lead_rows.specs.Leads.{KeptRows}
use Rattle.lead_rows.specs.declared.led.Led.{Led}

-- the row that is stored by its lead and what follows it
abbrev pub whole : Led → List ℕ
whole r = slice_set r.tail.row r.lead 1

-- all the rows, and their leads
abbrev pub whole_matrix : ℕ → List Led → Matrix
whole_matrix n rows = of_rows n (map whole rows)

abbrev pub leads_of : List Led → List ℕ
leads_of rows = map (λ r. r.lead) rows

abbrev pub kept_rows : ℕ → ℕ → List Led → KeptRows
kept_rows p n rows = record { modulus = p; matrix = whole_matrix n rows; leads = leads_of rows }

-- the row holds residues, and none up to its lead
pub record IsLed (p n : ℕ) (r : Led) : Type 0 where
  pub modulus : r.tail.modulus ≡ p
  pub vector : IsVector p n r.tail.row
  pub lead : r.lead < n
  pub behind : (j : ℕ) → j ≤ r.lead → slice_index r.tail.row j ≡ 0

-- the list of columns has the row that leads at each, or the largest u32
pub record IsKept (p n : ℕ) (rows : List Led) (row_at : List ℕ) : Type 0 where
  pub two_or_more : 2 ≤ p
  pub in_range : p < MODULUS_BOUND
  pub width_small : n ≤ LARGEST_SIZE
  pub columns : length row_at ≡ n
  pub each : (k : ℕ) (d : Led) → k < length rows → IsLed p n (slice_index_or rows k d)
  pub found : (k : ℕ) (d : Led) → k < length rows → slice_index row_at (slice_index_or rows k d).lead ≡ k
  pub only : (c : ℕ) (d : Led) → c < n → slice_index row_at c ≢ 4294967295 →
      (slice_index row_at c < length rows) × ((slice_index_or rows (slice_index row_at c) d).lead ≡ c)

-- what `Leads` is made of: the kept rows, and a row of sums that are 0
abbrev pub AreParts : ℕ → ℕ → List Led → List ℕ → ResidueRow → Type 0
AreParts p n rows row_at sums = IsKept p n rows row_at × IsClear p n sums

-- it is the kept row that leads at column c
pub record LeadsAt (kept : KeptRows) (r : Led) (c : ℕ) : Type 0 where
  pub k : ℕ
  pub inside : k < kept.matrix.height
  pub lead : r.lead ≡ c
  pub led : IsLed kept.modulus kept.matrix.width r
  pub is_row : row kept.matrix k ≡ whole r

-- where s is not 0, w is 0 there and behind
abbrev pub IsBehind : ℕ → List ℕ → List ℕ → Type 0
IsBehind n s w = (j k : ℕ) → j < n → slice_index s j ≢ 0 → j ≤ k → k < n → slice_index w k ≡ 0

-- a row to which what is left of s can be appended
pub record CanTake (s : List ℕ) (rest : ResidueRow) (p : ℕ) : Type 0 where
  pub modulus : rest.modulus ≡ p
  pub vector : IsVector p (length s) rest.row
  pub behind : IsBehind (length s) s rest.row

-- the row of these columns and values, as wide as another row and with its modulus
abbrev pub spread_row : ResidueRow → List ℕ → List ℕ → ResidueRow
spread_row a cs vs = record { modulus = a.modulus; row = spread (length a.row) cs vs }

-- the sums of the entries of s and w
abbrev pub both : ℕ → ℕ → List ℕ → List ℕ → List ℕ
both p n s w = list_of n (λ j. (slice_index s j + slice_index w j) % p)

-- w is what the kept rows leave of s together with w0: it keeps what w0 has at the leads and before s begins
pub record Drains (rows : List Led) (s : ResidueRow) (w0 w : List ℕ) : Type 0 where
  pub vector : IsVector s.modulus (length s.row) w
  pub at_leads : (k : ℕ) → k < length rows → slice_index w (slice_index (leads_of rows) k)
      ≡ slice_index w0 (slice_index (leads_of rows) k)
  pub before : (c : ℕ) → ((j : ℕ) → j < c → slice_index s.row j ≡ 0) → (j : ℕ) → j < c →
      slice_index w j ≡ slice_index w0 j
  pub differs : DiffersBy s.modulus (whole_matrix (length s.row) rows)
      (both s.modulus (length s.row) s.row w0) w

-- the list holds what follows column c of a row w, divided by the entry there; and 0 up to c
pub record IsTailOf (p : ℕ) (w : List ℕ) (c : ℕ) (tail : List ℕ) : Type 0 where
  pub factor : ℕ
  pub inverse : IsPrime p → (slice_index w c * factor) % p ≡ 1
  pub vector : IsVector p (length w) tail
  pub behind : (j : ℕ) → j ≤ c → slice_index tail j ≡ 0
  pub after : (j : ℕ) → c < j → j < length w → slice_index tail j ≡ (factor * slice_index w j) % p

-- 0 stands at each lead
abbrev pub IsZeroAtLeads : KeptRows → List ℕ → Type 0
IsZeroAtLeads kept w = (k : ℕ) → k < kept.matrix.height → slice_index w (slice_index kept.leads k) ≡ 0

-- no kept row leads at column c
abbrev pub IsNewLead : KeptRows → ℕ → Type 0
IsNewLead kept c = (k : ℕ) → k < kept.matrix.height → slice_index kept.leads k ≢ c

-- the row was appended to the kept ones
abbrev pub with_led : KeptRows → Led → KeptRows
with_led kept r = record {
  modulus = kept.modulus;
  matrix = with_row kept.matrix (whole r);
  leads = kept.leads ++ r.lead ∷ [];
}

-- w, whose first entry stands at column c, was appended with 1 there and its tail
pub record ExtendsAt (old new : KeptRows) (w : List ℕ) (c : ℕ) : Type 0 where
  pub tail : List ℕ
  pub inside : c < old.matrix.width
  pub first : slice_index w c ≢ 0
  pub before : (j : ℕ) → j < c → slice_index w j ≡ 0
  pub is_tail : IsTailOf old.modulus w c tail
  pub modulus : new.modulus ≡ old.modulus
  pub matrix : new.matrix ≡ with_row old.matrix (slice_set tail c 1)
  pub leads : new.leads ≡ old.leads ++ c ∷ []

-- w was appended, or it is the zero row and nothing changed
abbrev pub Extends : KeptRows → KeptRows → List ℕ → Option ℕ → Type 0
Extends old new w (Some c) = ExtendsAt old new w c
Extends old new w None = (new ≡ old) × AllZero w
