-- The images of the index of no ids, of one id and of three at gamma 2.0, as words, the last of the older form too. Their checks were computed apart.
use Rattle.std.specs.Prelude.{List, [], ◌∷◌, ◌++◌, ℕ, ◌^◌}
use Rattle.laws.specs.Stores.{zeros, filled}
use Rattle.block.specs.Block.{block_content}

-- a block: its number, its content, of which what is not given is 0, and its check
abbrev pub block : (number : ℕ) (content : List ℕ) (check : ℕ) → List ℕ
block number content check = number ∷ (filled content block_content ++ (check ∷ []))

-- of the index of no ids, of one and of three: the words begin at content word 42 of block 1
abbrev pub none_image : List ℕ
none_image = block 0 (2 ∷ 0 ∷ 0 ∷ 1 ∷ 255 ∷ []) 0x349B_9DF1_613B_3DE0 ++ block 1 [] 0x500D_6DC3_17C9_B17F

abbrev pub one_image : List ℕ
one_image = block 0 (2 ∷ 0 ∷ 1 ∷ 1 ∷ 255 ∷ []) 0x342A_7840_F71A_2C81 ++ block 1 (zeros 42 ++ (0 ∷ 0 ∷ 2 ^ 11 ∷ [])) 0x04CF_D346_E568_A907

abbrev pub three_image : List ℕ
three_image =
    block 0 (2 ∷ 0 ∷ 3 ∷ 2 ∷ 255 ∷ 255 ∷ []) 0x8F06_B059_0877_0CCD
    ++ block 1 (zeros 42 ++ (0 ∷ 0 ∷ 0 ∷ 2 ^ 5 ∷ 2 ^ 58 ∷ 0 ∷ 2 ^ 63 ∷ 0 ∷ 0 ∷ 1 ∷ [])) 0x44E4_1571_F94D_2E13

-- of the same three ids in the older form, which has no kind: the words begin one place before
abbrev pub older_three : List ℕ
older_three =
    block 0 (1 ∷ 3 ∷ 2 ∷ 255 ∷ 255 ∷ []) 0x3B02_1A3E_6609_F69C
    ++ block 1 (zeros 41 ++ (0 ∷ 0 ∷ 0 ∷ 2 ^ 5 ∷ 2 ^ 58 ∷ 0 ∷ 2 ^ 63 ∷ 0 ∷ 0 ∷ 1 ∷ [])) 0x269F_E8C0_E8AD_1B98
