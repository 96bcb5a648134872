-- The check sum of an address: the remainder of the division by x^16 + x^12 + x^5 + 1, over the bytes from 0 on, highest bit first.
use Rattle.std.specs.Prelude.{ℕ, zero, suc, ◌-◌, ◌*◌, List, nat_lt, if◌then◌else◌, bit_xor, fold}

-- one bit more: the rest times x, without the polynomial where it has an x^16
unfoldable pub crc_bit : ℕ → ℕ
crc_bit n = if nat_lt n 0x8000 then n * 2 else bit_xor ((n - 0x8000) * 2) 0x1021

-- this many bits more
unfoldable pub crc_bits : ℕ → ℕ → ℕ
crc_bits zero n = n
crc_bits (suc k) n = crc_bit (crc_bits k n)

-- one byte more, added at the top
abbrev pub crc_byte : ℕ → ℕ → ℕ
crc_byte n byte = crc_bits 8 (bit_xor n (byte * 256))

-- the check sum of the bytes
abbrev pub crc : List ℕ → ℕ
crc bytes = fold crc_byte 0 bytes
