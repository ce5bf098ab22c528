use Rattle.std.specs.Prelude.{ℕ, zero, suc, ◌+◌, ◌-◌, ◌*◌, ◌/◌, ◌%◌, ◌^◌, ◌<◌, ℤ, pos, ◌-ℤ◌, if◌then◌else◌, nat_lt, List, [], ◌∷◌, Option, Some, None, All, option_map}

-- a string of bytes
abbrev pub IsBytes : List ℕ → Type 0
IsBytes bytes = All (λ byte. byte < 256) bytes

-- The fields of a ModR/M byte are mod, reg and rm, those of a SIB byte scale, index and base: two bits, three and
-- three, from the top. (Intel SDM, volume 2, 2.1.3.)
abbrev pub mod_of : ℕ → ℕ
mod_of byte = byte / 64

abbrev pub reg_of : ℕ → ℕ
reg_of byte = byte / 8 % 8

abbrev pub rm_of : ℕ → ℕ
rm_of byte = byte % 8

abbrev pub scale_of : ℕ → ℕ
scale_of byte = byte / 64

abbrev pub index_of : ℕ → ℕ
index_of byte = byte / 8 % 8

abbrev pub base_of : ℕ → ℕ
base_of byte = byte % 8

-- the number in so many bytes at the front, the lowest first, and what follows them
unfoldable pub number_at : ℕ → List ℕ → Option (ℕ × List ℕ)
number_at zero bytes = Some (0, bytes)
number_at (suc size) [] = None
number_at (suc size) (byte ∷ bytes) = option_map (λ higher. (byte + 256 * higher.0, higher.1)) (number_at size bytes)

-- the number in one byte, and in four, as a signed one
abbrev pub s8 : ℕ → ℤ
s8 n = if nat_lt n 128 then pos n else (pos n -ℤ pos 256)

abbrev pub s32 : ℕ → ℤ
s32 n = if nat_lt n (2 ^ 31) then pos n else (pos n -ℤ pos (2 ^ 32))

-- the number in so many bytes, as a signed one
abbrev pub signed_of : ℕ → ℕ → ℤ
signed_of size n = if nat_lt n (2 ^ (8 * size - 1)) then pos n else (pos n -ℤ pos (2 ^ (8 * size)))
