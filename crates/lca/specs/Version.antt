-- The version of the C interface. Every change of a call, of a length or of a number's meaning raises it, and LCA_VERSION in include/lca.h with it.
-- Assumes nothing.
use Rattle.std.specs.Prelude.{ℕ}

abbrev pub version : ℕ
version = 4
