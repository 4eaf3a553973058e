-- Figures in a table of rows, one a party, with a place for each region.
use Rattle.std.specs.Prelude.{ℕ, ◌+◌, cond, List, [], ◌==◌, slice_index, slice_index_or}

abbrev pub figure_of : List (List ℕ) → ℕ → ℕ → ℕ
figure_of rows p r = slice_index (slice_index_or rows p []) r

-- figures with v more for party p in region r
abbrev pub bumped : (p r v : ℕ) → (ℕ → ℕ → ℕ) → ℕ → ℕ → ℕ
bumped p r v f q s = f q s + cond (s == r) (cond (q == p) v 0) 0
