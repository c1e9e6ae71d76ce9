-- Which files are accepted, and what stays of a buffer. Assumes nothing.
use Rattle.std.specs.Prelude.{◌≡◌, ℕ, ◌-◌, ◌*◌, ◌<◌, ◌≤◌, Bool, true, false, ◌&&◌, List, length, drop, Ok, Err, Result, ℤ, pos, ◌==◌, nat_le, nat_lt, slice_index, slice_index_or}
use Rattle.casefile.specs.declared.faults.SheetFault.{SheetFault}
use Rattle.casefile.specs.declared.faults.SheetFault.TheVariants.{FileRefused, BufferTooShort, NoMemory}
use Rattle.casefile.specs.Faults.{fault_number}
use Rattle.casefile.specs.Newlines.{newlines}

-- A file is not empty, has at most 32,000 bytes and 500 lines, and its last byte is 10.
abbrev pub file_accepted : List ℕ → Bool
file_accepted file = nat_lt 0 (length file) && (nat_le (length file) 32000 && (nat_le (newlines file) 500 && slice_index file (length file - 1) == 10))

-- The buffer is as long as it was, and past n nothing has changed.
pub record Kept (xs ys : List ℕ) (n : ℕ) : Type 0 where
  pub long : length ys ≡ length xs
  pub past : drop n ys ≡ drop n xs

-- A file that ends with a line.
pub record LinesEnd (file : List ℕ) : Type 0 where
  pub some : 0 < length file
  pub short : length file ≤ 32000
  pub ends : slice_index_or file (length file - 1) 0 ≡ 10

-- What is answered for a file and a buffer, which becomes another buffer: the file is refused exactly where it is not
-- accepted; else the buffer is too short exactly where it has less than 64 bytes a line; else there may be too little
-- memory; at each of these the buffer is unchanged. Else a length within the buffer, past which nothing has changed.
abbrev pub by_writing : List ℕ → List ℕ → Result ℕ SheetFault → Type 0
by_writing xs ys (Ok n) = (n ≤ length xs) × Kept xs ys n
by_writing xs ys (Err f) = (f ≡ NoMemory) × (ys ≡ xs)

abbrev pub by_room : Bool → List ℕ → List ℕ → Result ℕ SheetFault → Type 0
by_room true xs ys r = (r ≡ Err BufferTooShort) × (ys ≡ xs)
by_room false xs ys r = by_writing xs ys r

abbrev pub by_acceptance : Bool → List ℕ → List ℕ → List ℕ → Result ℕ SheetFault → Type 0
by_acceptance true file xs ys r = by_room (nat_lt (length xs) (64 * newlines file)) xs ys r
by_acceptance false file xs ys r = (r ≡ Err FileRefused) × (ys ≡ xs)

abbrev pub Written : List ℕ → List ℕ → List ℕ → Result ℕ SheetFault → Type 0
Written file xs ys r = by_acceptance (file_accepted file) file xs ys r

-- The same for a caller in C, by a number: the length, or -22, -21 or -100 for the fault.
abbrev pub answer_number : Result ℕ SheetFault → ℤ
answer_number (Ok n) = pos n
answer_number (Err f) = fault_number f

abbrev pub Answered : List ℕ → List ℕ → List ℕ → ℤ → Type 0
Answered file xs ys n = (r : Result ℕ SheetFault) × (n ≡ answer_number r) × Written file xs ys r
