-- The worked guests, assembled; each begins at 0x10010: docs/infinite-run.md, "Worked runs".
use Rattle.std.specs.Prelude.{ℕ, List, [], ◌∷◌}

-- Two objects of size 0 are compared: exits with 1 where they differ.
abbrev pub empty_objects : List ℕ
empty_objects =
    0x00000513 ∷ 0xfedff0ef ∷ 0x00050293 ∷ 0x00000513 ∷ 0xfe1ff0ef ∷ 0x00a28863 ∷ 0x00100513 ∷ 0x05d00893 ∷ 0x00000073 ∷ 0x00200513 ∷ 0x05d00893 ∷ 0x00000073 ∷ []

-- Allocates 2^20 bytes, and then one byte more: exits with 0 where the answer is 0.
abbrev pub largest_size : List ℕ
largest_size =
    0x00100537 ∷ 0xfedff0ef ∷ 0x00050293 ∷ 0x00100537 ∷ 0x00150513 ∷ 0xfddff0ef ∷ 0x00051863 ∷ 0x00000513 ∷ 0x05d00893 ∷ 0x00000073 ∷ 0x00100513 ∷ 0x05d00893 ∷
    0x00000073 ∷ []

-- Stores a zero byte at offset 16 of an object of 16 bytes, frees it, and prints `o`.
abbrev pub past_the_end : List ℕ
past_the_end =
    0x01000513 ∷ 0xfedff0ef ∷ 0x00050823 ∷ 0x00050513 ∷ 0xfe5ff0ef ∷ 0x00200437 ∷ 0x06f00293 ∷ 0x00540023 ∷ 0x00040593 ∷ 0x00100513 ∷ 0x00100613 ∷ 0x04000893 ∷
    0x00000073 ∷ 0x00000513 ∷ 0x05d00893 ∷ 0x00000073 ∷ []

-- Stores a zero byte 16 before an object of 16, and then goes on as the one above.
abbrev pub before_the_start : List ℕ
before_the_start =
    0x01000513 ∷ 0xfedff0ef ∷ 0xfe050823 ∷ 0x00050513 ∷ 0xfe5ff0ef ∷ 0x00200437 ∷ 0x06f00293 ∷ 0x00540023 ∷ 0x00040593 ∷ 0x00100513 ∷ 0x00100613 ∷ 0x04000893 ∷
    0x00000073 ∷ 0x00000513 ∷ 0x05d00893 ∷ 0x00000073 ∷ []

-- Frees an object twice.
abbrev pub frees_twice : List ℕ
frees_twice =
    0x01000513 ∷ 0xfedff0ef ∷ 0x00050293 ∷ 0x00028513 ∷ 0xfe5ff0ef ∷ 0x00028513 ∷ 0xfddff0ef ∷ 0x00000513 ∷ 0x05d00893 ∷ 0x00000073 ∷ []

-- Frees an object twice, with an allocation between.
abbrev pub frees_later : List ℕ
frees_later =
    0x01000513 ∷ 0xfedff0ef ∷ 0x00050293 ∷ 0x00028513 ∷ 0xfe5ff0ef ∷ 0x01000513 ∷ 0xfd9ff0ef ∷ 0x00028513 ∷ 0xfd5ff0ef ∷ 0x00000513 ∷ 0x05d00893 ∷ 0x00000073 ∷ []

-- Stores 7, frees the object, allocates another one, and prints the byte that is read through the old pointer.
abbrev pub reads_freed : List ℕ
reads_freed =
    0x01000513 ∷ 0xfedff0ef ∷ 0x00050293 ∷ 0x00700313 ∷ 0x00628023 ∷ 0x00028513 ∷ 0xfddff0ef ∷ 0x01000513 ∷ 0xfd1ff0ef ∷ 0x0002c383 ∷ 0x00200437 ∷ 0x00740023 ∷
    0x00040593 ∷ 0x00100513 ∷ 0x00100613 ∷ 0x04000893 ∷ 0x00000073 ∷ 0x00000513 ∷ 0x05d00893 ∷ 0x00000073 ∷ []

-- The same with two allocations before the read.
abbrev pub reads_later : List ℕ
reads_later =
    0x01000513 ∷ 0xfedff0ef ∷ 0x00050293 ∷ 0x00700313 ∷ 0x00628023 ∷ 0x00028513 ∷ 0xfddff0ef ∷ 0x01000513 ∷ 0xfd1ff0ef ∷ 0x01000513 ∷ 0xfc9ff0ef ∷ 0x0002c383 ∷
    0x00200437 ∷ 0x00740023 ∷ 0x00040593 ∷ 0x00100513 ∷ 0x00100613 ∷ 0x04000893 ∷ 0x00000073 ∷ 0x00000513 ∷ 0x05d00893 ∷ 0x00000073 ∷ []

-- Prints the four bytes of a pointer.
abbrev pub prints_pointer : List ℕ
prints_pointer =
    0x01000513 ∷ 0xfedff0ef ∷ 0x00200437 ∷ 0x00a42023 ∷ 0x00040593 ∷ 0x00100513 ∷ 0x00400613 ∷ 0x04000893 ∷ 0x00000073 ∷ 0x00000513 ∷ 0x05d00893 ∷ 0x00000073 ∷ []

-- Copies a pointer to a second object byte by byte, stores `k` there, and prints it as it is read through the copy.
abbrev pub copies_pointer : List ℕ
copies_pointer =
    0x01000513 ∷ 0xfedff0ef ∷ 0x00050293 ∷ 0x01000513 ∷ 0xfe1ff0ef ∷ 0x00050313 ∷ 0x0062a023 ∷ 0x0062c3b3 ∷ 0x0033f393 ∷ 0x04039e63 ∷ 0x0002c383 ∷ 0x00728423 ∷
    0x0012c383 ∷ 0x007284a3 ∷ 0x0022c383 ∷ 0x00728523 ∷ 0x0032c383 ∷ 0x007285a3 ∷ 0x0082a483 ∷ 0x06b00e13 ∷ 0x01c30023 ∷ 0x0004ce83 ∷ 0x00200437 ∷ 0x01d40023 ∷
    0x00040593 ∷ 0x00100513 ∷ 0x00100613 ∷ 0x04000893 ∷ 0x00000073 ∷ 0x00000513 ∷ 0x05d00893 ∷ 0x00000073 ∷ 0x00100513 ∷ 0x05d00893 ∷ 0x00000073 ∷ []

-- Stores `hello` and a zero byte, and looks for that byte word by word; exits with the offset behind its word.
abbrev pub seeks_zero : List ℕ
seeks_zero =
    0x06400513 ∷ 0xfedff0ef ∷ 0x00050293 ∷ 0x06800313 ∷ 0x00628023 ∷ 0x06500313 ∷ 0x006280a3 ∷ 0x06c00313 ∷ 0x00628123 ∷ 0x06c00313 ∷ 0x006281a3 ∷ 0x06f00313 ∷
    0x00628223 ∷ 0x000282a3 ∷ 0x01010e37 ∷ 0x101e0e13 ∷ 0x80808eb7 ∷ 0x080e8e93 ∷ 0x00028313 ∷ 0x00032383 ∷ 0x41c38f33 ∷ 0xfff3cf93 ∷ 0x01ff7f33 ∷ 0x01df7f33 ∷
    0x00430313 ∷ 0xfe0f04e3 ∷ 0x40530533 ∷ 0x05d00893 ∷ 0x00000073 ∷ []

-- Stores 5 at offset 15 of an object of calloc, reallocates it to 40 bytes, and exits with the sum of its bytes 15 and 0.
abbrev pub grows_zeros : List ℕ
grows_zeros =
    0x00400513 ∷ 0x00400593 ∷ 0xff1ff0ef ∷ 0x00500293 ∷ 0x005507a3 ∷ 0x02800593 ∷ 0xfe5ff0ef ∷ 0x00f54303 ∷ 0x00054383 ∷ 0x00730533 ∷ 0x05d00893 ∷ 0x00000073 ∷ []

-- Reallocates an object to 2^20 + 1 bytes, then the number 0 that this answers to 8 bytes, then the object to 4 bytes, and then once more.
abbrev pub reallocates : List ℕ
reallocates =
    0x00800513 ∷ 0xfedff0ef ∷ 0x00050293 ∷ 0x001005b7 ∷ 0x00158593 ∷ 0xfe9ff0ef ∷ 0x00800593 ∷ 0xfe1ff0ef ∷ 0x00028513 ∷ 0x00400593 ∷ 0xfd5ff0ef ∷ 0x00028593 ∷
    0x00028513 ∷ 0xfc9ff0ef ∷ []

-- Frees what calloc answers to 65536 objects of 65536 bytes, an inner pointer, and the number 2^30.
abbrev pub frees_others : List ℕ
frees_others =
    0x00010537 ∷ 0x000105b7 ∷ 0xff1ff0ef ∷ 0xfe9ff0ef ∷ 0x00800513 ∷ 0xfddff0ef ∷ 0x00350513 ∷ 0xfd9ff0ef ∷ 0x40000537 ∷ 0xfd1ff0ef ∷ []

-- Allocates 16 bytes and frees them, with the size and the pointer in a1 and 7 in a0 at the end; exits with a0.
abbrev pub skips_argument : List ℕ
skips_argument =
    0x01000593 ∷ 0xfedff0ef ∷ 0x00050593 ∷ 0x00700513 ∷ 0xfe5ff0ef ∷ 0x05d00893 ∷ 0x00000073 ∷ []

-- Calls malloc with an odd ra, whose lowest bit is cleared.
abbrev pub odd_return : List ℕ
odd_return =
    0x000100b7 ∷ 0x02108093 ∷ 0x01000513 ∷ 0xfe5ff06f ∷ 0x00900513 ∷ 0x05d00893 ∷ 0x00000073 ∷ []

-- Calls malloc of a pointer with ra 6.
abbrev pub misaligned_return : List ℕ
misaligned_return =
    0x01000513 ∷ 0xfedff0ef ∷ 0x00600093 ∷ 0xfe5ff06f ∷ []

-- Calls malloc of a pointer with a pointer in ra.
abbrev pub pointer_return : List ℕ
pointer_return =
    0x01000513 ∷ 0xfedff0ef ∷ 0x00250093 ∷ 0xfe5ff06f ∷ []

-- Calls malloc of a pointer.
abbrev pub pointer_size : List ℕ
pointer_size =
    0x01000513 ∷ 0xfedff0ef ∷ 0xfe9ff0ef ∷ []

-- Fills an object of 3 bytes with 7, until its pointer isn't below one to the object's end; exits with the last byte.
abbrev pub fills_to_end : List ℕ
fills_to_end =
    0x00300513 ∷ 0xfedff0ef ∷ 0x00350293 ∷ 0x00700313 ∷ 0x00650023 ∷ 0x00150513 ∷ 0xfe556ce3 ∷ 0xfff2c503 ∷ 0x05d00893 ∷ 0x00000073 ∷ []

-- Compares a pointer with 0, with 2^30 - 1 and with 2^31: exits with 5 where it differs from the first, is above the second and below the third, and isn't below the third as a signed number.
abbrev pub compares_numbers : List ℕ
compares_numbers =
    0x01000513 ∷ 0xfedff0ef ∷ 0x02050463 ∷ 0x400002b7 ∷ 0xfff28293 ∷ 0x00a2fe63 ∷ 0x80000337 ∷ 0x00a36a63 ∷ 0x00654863 ∷ 0x00500513 ∷ 0x05d00893 ∷ 0x00000073 ∷
    0x00100513 ∷ 0x05d00893 ∷ 0x00000073 ∷ []

-- Sets the lowest bit of a pointer to offset 8 and reads it, clears its three lowest bits and stores what was read, clears all four after setting another one, and exits with the byte at offset 8.
abbrev pub tags_pointer : List ℕ
tags_pointer =
    0x01000513 ∷ 0xfedff0ef ∷ 0x00850293 ∷ 0x0012e293 ∷ 0x0072f313 ∷ 0xff82f293 ∷ 0x00628023 ∷ 0x0022c393 ∷ 0xff03f393 ∷ 0x0083c503 ∷ 0x05d00893 ∷ 0x00000073 ∷ []

-- Stores a pointer, loads its halves and joins them, stores the half -2 through it, and exits with that half negated.
abbrev pub joins_halves : List ℕ
joins_halves =
    0x00400513 ∷ 0xfedff0ef ∷ 0x00200437 ∷ 0x00a42023 ∷ 0x00045583 ∷ 0x00245603 ∷ 0x01061613 ∷ 0x00c5e6b3 ∷ 0xffe00293 ∷ 0x00569123 ∷ 0x00251303 ∷ 0x40600533 ∷
    0x05d00893 ∷ 0x00000073 ∷ []

-- Reads up to 16 bytes into an object from offset 2 on, prints what was read, its first byte on descriptor 2, and then, in vain, on descriptor 3; prints nothing at last, and exits with what that answers.
abbrev pub echoes : List ℕ
echoes =
    0x01000513 ∷ 0xfedff0ef ∷ 0x00050293 ∷ 0x00000513 ∷ 0x00228593 ∷ 0x01000613 ∷ 0x03f00893 ∷ 0x00000073 ∷ 0x00050613 ∷ 0x00100513 ∷ 0x04000893 ∷ 0x00000073 ∷
    0x00200513 ∷ 0x00100613 ∷ 0x00000073 ∷ 0x00300513 ∷ 0x00000073 ∷ 0x00000613 ∷ 0x00100513 ∷ 0x00000073 ∷ 0x05d00893 ∷ 0x00000073 ∷ []

-- Prints the first byte of a new object.
abbrev pub prints_unset : List ℕ
prints_unset =
    0x01000513 ∷ 0xfedff0ef ∷ 0x00050593 ∷ 0x00100513 ∷ 0x00100613 ∷ 0x04000893 ∷ 0x00000073 ∷ []

-- Loads a word through a pointer to offset 2.
abbrev pub misaligned_load : List ℕ
misaligned_load =
    0x01000513 ∷ 0xfedff0ef ∷ 0x00252283 ∷ []

-- Stores a half through a pointer to offset 1.
abbrev pub misaligned_store : List ℕ
misaligned_store =
    0x01000513 ∷ 0xfedff0ef ∷ 0x000510a3 ∷ []

-- Jumps by 6 where two objects differ.
abbrev pub misaligned_branch : List ℕ
misaligned_branch =
    0x01000513 ∷ 0xfedff0ef ∷ 0x00050293 ∷ 0x01000513 ∷ 0xfe1ff0ef ∷ 0x00a29363 ∷ []

-- Loads a word from the number 2^30 + 2.
abbrev pub region_address : List ℕ
region_address =
    0x400002b7 ∷ 0x00228293 ∷ 0x0002a303 ∷ []

-- Stores through a pointer that was shifted by four bits.
abbrev pub unknown_address : List ℕ
unknown_address =
    0x01000513 ∷ 0xfedff0ef ∷ 0x00455513 ∷ 0x00050023 ∷ []

-- Makes the system call whose number is a pointer.
abbrev pub pointer_call : List ℕ
pointer_call =
    0x01000513 ∷ 0xfedff0ef ∷ 0x00050893 ∷ 0x00000073 ∷ []

-- Exits with a pointer.
abbrev pub pointer_exit : List ℕ
pointer_exit =
    0x01000513 ∷ 0xfedff0ef ∷ 0x05d00893 ∷ 0x00000073 ∷ []

-- Makes the system call 5 of a pointer, and exits with what it answers.
abbrev pub other_call : List ℕ
other_call =
    0x01000513 ∷ 0xfedff0ef ∷ 0x00500893 ∷ 0x00000073 ∷ 0x05d00893 ∷ 0x00000073 ∷ []

-- Writes as many bytes as a pointer on descriptor 3, and on descriptor 1.
abbrev pub pointer_length : List ℕ
pointer_length =
    0x01000513 ∷ 0xfedff0ef ∷ 0x00050613 ∷ 0x00300513 ∷ 0x04000893 ∷ 0x00000073 ∷ 0x00100513 ∷ 0x00000073 ∷ []

-- Writes no byte from 2^30, two bytes from 2^30 - 2, two from 2^31, and three from 2^30 - 2.
abbrev pub region_span : List ℕ
region_span =
    0x04000893 ∷ 0x00100513 ∷ 0x400005b7 ∷ 0x00000613 ∷ 0x00000073 ∷ 0x00100513 ∷ 0xffe58593 ∷ 0x00200613 ∷ 0x00000073 ∷ 0x00100513 ∷ 0x800005b7 ∷ 0x00000073 ∷
    0x00100513 ∷ 0x400005b7 ∷ 0xffe58593 ∷ 0x00300613 ∷ 0x00000073 ∷ []

-- Stores a pointer and jumps to where it is.
abbrev pub runs_pointer : List ℕ
runs_pointer =
    0x01000513 ∷ 0xfedff0ef ∷ 0x00200437 ∷ 0x00a42023 ∷ 0x00040067 ∷ []

-- Jumps to a pointer.
abbrev pub jumps_to_pointer : List ℕ
jumps_to_pointer =
    0x01000513 ∷ 0xfedff0ef ∷ 0x00050067 ∷ []

-- Frees the numbers 2^30 - 1, 2^31 and 16.
abbrev pub frees_numbers : List ℕ
frees_numbers =
    0x40000537 ∷ 0xfff50513 ∷ 0xfedff0ef ∷ 0x80000537 ∷ 0xfe5ff0ef ∷ 0x01000513 ∷ 0xfddff0ef ∷ 0x00000513 ∷ 0x05d00893 ∷ 0x00000073 ∷ []

-- ---- memalign, aligned_alloc, _memalign_r and realloc stand at the breakpoints here

-- Asks memalign for 100 bytes at an alignment of 64, sets low bits of the pointer to 37, reads them and clears them, stores them at offset 0, rounds offset 70 up to a multiple of 64, and exits with the sum of that and of the byte at offset 0.
abbrev pub aligns_pointers : List ℕ
aligns_pointers =
    0x04000513 ∷ 0x06400593 ∷ 0xfe9ff0ef ∷ 0x02556293 ∷ 0x03f2f313 ∷ 0xfc02f393 ∷ 0x00638023 ∷ 0x08550e13 ∷ 0xfc0e7e13 ∷ 0x40ae0e33 ∷ 0x00054503 ∷ 0x01c50533 ∷ 0x05d00893 ∷ 0x00000073 ∷ []

-- Branches on bit 6 of a pointer of alignment 64.
abbrev pub masks_too_much : List ℕ
masks_too_much =
    0x04000513 ∷ 0x06400593 ∷ 0xfe9ff0ef ∷ 0x04057293 ∷ 0x00029463 ∷ []

-- Asks memalign for 8 bytes at the alignments 0, 1, 16, 24, 32, 4096, 8192 and 2^31; exits with a bit for each, the last the lowest, that is set where the answer is 0.
abbrev pub asks_alignments : List ℕ
asks_alignments =
    0x00000513 ∷ 0x00800593 ∷ 0xfe9ff0ef ∷ 0x00153293 ∷ 0x00141413 ∷ 0x00546433 ∷ 0x00100513 ∷ 0x00800593 ∷ 0xfd1ff0ef ∷ 0x00153293 ∷ 0x00141413 ∷ 0x00546433 ∷ 0x01000513 ∷ 0x00800593 ∷ 0xfb9ff0ef ∷ 0x00153293 ∷ 0x00141413 ∷ 0x00546433 ∷ 0x01800513 ∷ 0x00800593 ∷ 0xfa1ff0ef ∷ 0x00153293 ∷ 0x00141413 ∷ 0x00546433 ∷ 0x02000513 ∷ 0x00800593 ∷ 0xf89ff0ef ∷ 0x00153293 ∷ 0x00141413 ∷ 0x00546433 ∷ 0x00001537 ∷ 0x00800593 ∷ 0xf71ff0ef ∷ 0x00153293 ∷ 0x00141413 ∷ 0x00546433 ∷ 0x00002537 ∷ 0x00800593 ∷ 0xf59ff0ef ∷ 0x00153293 ∷ 0x00141413 ∷ 0x00546433 ∷ 0x80000537 ∷ 0x00800593 ∷ 0xf41ff0ef ∷ 0x00153293 ∷ 0x00141413 ∷ 0x00546433 ∷ 0x00040513 ∷ 0x05d00893 ∷ 0x00000073 ∷ []

-- Asks memalign for 2^20 bytes at 4096, and then for one byte more: exits with 0 where the answer is 0.
abbrev pub largest_aligned : List ℕ
largest_aligned =
    0x00001537 ∷ 0x001005b7 ∷ 0xfe9ff0ef ∷ 0x00050293 ∷ 0x00001537 ∷ 0x001005b7 ∷ 0x00158593 ∷ 0xfd5ff0ef ∷ 0x00051863 ∷ 0x00000513 ∷ 0x05d00893 ∷ 0x00000073 ∷ 0x00100513 ∷ 0x05d00893 ∷ 0x00000073 ∷ []

-- Asks memalign for 16 bytes at a pointer.
abbrev pub pointer_alignment : List ℕ
pointer_alignment =
    0x01000513 ∷ 0x01000593 ∷ 0xfe9ff0ef ∷ 0x01000593 ∷ 0xfe1ff0ef ∷ []

-- Asks memalign for as many bytes as a pointer, at 24.
abbrev pub aligned_pointer_size : List ℕ
aligned_pointer_size =
    0x01000513 ∷ 0x01000593 ∷ 0xfe9ff0ef ∷ 0x00050593 ∷ 0x01800513 ∷ 0xfddff0ef ∷ []

-- Asks aligned_alloc for 4096 bytes at 32, and exits with the low five bits of the pointer.
abbrev pub allocates_aligned : List ℕ
allocates_aligned =
    0x02000513 ∷ 0x000015b7 ∷ 0xfedff0ef ∷ 0x01f57513 ∷ 0x05d00893 ∷ 0x00000073 ∷ []

-- Asks _memalign_r for 100 bytes at 64, with 7 in a0, and exits with the bits of 48 that the pointer doesn't have.
abbrev pub skips_before_alignment : List ℕ
skips_before_alignment =
    0x00700513 ∷ 0x04000593 ∷ 0x06400613 ∷ 0xfedff0ef ∷ 0x03056293 ∷ 0x40a28533 ∷ 0x05d00893 ∷ 0x00000073 ∷ []

-- Reallocates an object of alignment 64, and branches on the low five bits of the new pointer.
abbrev pub reallocates_aligned : List ℕ
reallocates_aligned =
    0x04000513 ∷ 0x00800593 ∷ 0xfe9ff0ef ∷ 0x06400593 ∷ 0xfedff0ef ∷ 0x01f57293 ∷ 0x00029463 ∷ []

-- An input: `hi` and a line feed.
abbrev pub hi : List ℕ
hi = 104 ∷ 105 ∷ 10 ∷ []
