use Rattle.std.specs.Prelude.{◌≡◌, ◌≤◌, ◌<◌, ◌++◌, ℕ, ℤ, List, drop, length, MatchOption}
use Rattle.x64_plain.specs.Status.{fault_status}
use Rattle.x64_plain.specs.declared.status.TheConstants.{HQ_FULL, HQ_OK}
use Rattle.x64_plain.specs.declared.told.HqUse.{HqUse}
use Rattle.huqmeris_c.specs.Encodes.{Encodes, no_offsets}
use Rattle.x64_core.specs.Core.{core_len, fault_of}
use Rattle.x64_core.specs.View.{CoreView}

-- What `hq_encode` leaves.

-- all that it could write is as before
pub record Unchanged (code code' : List ℕ) (len len' : ℕ) (told told' : HqUse) : Type 0 where
  pub same_code : code' ≡ code
  pub same_len : len' ≡ len
  pub same_told : told' ≡ told

-- The instruction's bytes stand at the front, as many as it has, and what stands behind them is as before.
pub record Written (v : CoreView) (code code' : List ℕ) (len : ℕ) (told : HqUse) : Type 0 where
  pub added : List ℕ
  pub front : code' ≡ added ++ drop len code
  pub count : len ≡ length added
  pub is : len ≡ core_len no_offsets v
  pub encodes : Encodes v added told

-- where an instruction can be encoded, and where there's too little room
pub record PutWhere (v : CoreView) (code code' : List ℕ) (len len' : ℕ) (told told' : HqUse) (status : ℤ) : Type 0 where
  pub fits : core_len no_offsets v ≤ length code → (status ≡ HQ_OK) × Written v code code' len' told'
  pub full : length code < core_len no_offsets v → (status ≡ HQ_FULL) × Unchanged code code' len len' told told'

abbrev pub PutAs : CoreView → List ℕ → List ℕ → ℕ → ℕ → HqUse → HqUse → ℤ → Type 0
PutAs v code code' len len' told told' status =
    MatchOption (fault_of no_offsets v)
    (PutWhere v code code' len len' told told' status)
    (λ fault. (status ≡ fault_status fault) × Unchanged code code' len len' told told')
