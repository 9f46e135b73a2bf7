-- Digests that are known, so that a wrong constant, step or padding in the definition does not check.
use Rattle.std.proofs.Common.{◌≡◌, [], ◌∷◌, codes, refl, replicate}
use Rattle.byte_numbers.specs.Numbers.{numbers, little_endian}
use Rattle.blake2b_core.specs.Blake2b.{half_mix, mix, round, rounds, work_vector, compress, blocks, chained, final_chain, digest}

pub digest_of_nothing : digest [] ≡ 14 ∷ 87 ∷ 81 ∷ 192 ∷ 38 ∷ 229 ∷ 67 ∷ 178 ∷ 232 ∷ 171 ∷ 46 ∷ 176 ∷ 96 ∷ 153 ∷ 218 ∷ 161 ∷ 209 ∷ 229 ∷ 223 ∷ 71 ∷ 119 ∷ 143 ∷ 119 ∷ 135 ∷ 250 ∷ 171 ∷ 69 ∷ 205 ∷ 241 ∷ 47 ∷ 227 ∷ 168 ∷ []
unfolding numbers little_endian half_mix mix round rounds work_vector compress blocks chained final_chain digest
digest_of_nothing = refl

-- three bytes of text
pub digest_of_abc : digest (codes "abc") ≡ 189 ∷ 221 ∷ 129 ∷ 60 ∷ 99 ∷ 66 ∷ 57 ∷ 114 ∷ 49 ∷ 113 ∷ 239 ∷ 63 ∷ 238 ∷ 152 ∷ 87 ∷ 155 ∷ 148 ∷ 150 ∷ 78 ∷ 59 ∷ 177 ∷ 203 ∷ 62 ∷ 66 ∷ 114 ∷ 98 ∷ 200 ∷ 192 ∷ 104 ∷ 213 ∷ 35 ∷ 25 ∷ []
unfolding numbers little_endian half_mix mix round rounds work_vector compress blocks chained final_chain digest
digest_of_abc = refl

-- one whole block, and no further one
pub digest_of_a_block : digest (replicate 128 0) ≡ 55 ∷ 141 ∷ 12 ∷ 170 ∷ 170 ∷ 56 ∷ 85 ∷ 241 ∷ 179 ∷ 134 ∷ 147 ∷ 193 ∷ 214 ∷ 239 ∷ 0 ∷ 79 ∷ 209 ∷ 24 ∷ 105 ∷ 28 ∷ 149 ∷ 201 ∷ 89 ∷ 212 ∷ 239 ∷ 169 ∷ 80 ∷ 214 ∷ 214 ∷ 252 ∷ 247 ∷ 193 ∷ []
unfolding numbers little_endian half_mix mix round rounds work_vector compress blocks chained final_chain digest
digest_of_a_block = refl

-- two blocks
pub digest_of_two_blocks : digest (replicate 129 0) ≡ 186 ∷ 173 ∷ 251 ∷ 100 ∷ 195 ∷ 189 ∷ 44 ∷ 209 ∷ 135 ∷ 181 ∷ 74 ∷ 204 ∷ 197 ∷ 230 ∷ 26 ∷ 7 ∷ 32 ∷ 237 ∷ 134 ∷ 191 ∷ 72 ∷ 194 ∷ 128 ∷ 23 ∷ 135 ∷ 53 ∷ 54 ∷ 207 ∷ 144 ∷ 21 ∷ 209 ∷ 184 ∷ []
unfolding numbers little_endian half_mix mix round rounds work_vector compress blocks chained final_chain digest
digest_of_two_blocks = refl
