-- The RDRAM image, as the list of its bytes.
use Rattle.std.specs.Prelude.{◌≡◌, ◌≤◌, ◌<◌, ℕ, ◌%◌, List, length, slice_index, slice_set}
use Rattle.rsp_memory.specs.Runs.{write_all}

-- the lengths of images: multiples of 8 from 64 to 8,388,608
pub record IsImageLength (n : ℕ) : Type 0 where
  pub at_least : 64 ≤ n
  pub at_most : n ≤ 8388608
  pub whole : n % 8 ≡ 0

-- an image: as many bytes as an image can have, each below 256
pub record IsImage (image : List ℕ) : Type 0 where
  pub count : IsImageLength (length image)
  pub bytes : (i : ℕ) → slice_index image i < 256

-- the byte at an address modulo 2^24; 0 after the image's end
unfoldable pub image_byte : List ℕ → ℕ → ℕ
image_byte image a = slice_index image (a % 16777216)

-- the image after a write of one byte at an address modulo 2^24; after the end it is dropped
unfoldable pub with_image_byte : List ℕ → ℕ → ℕ → List ℕ
with_image_byte image a b = slice_set image (a % 16777216) b

-- the image after a write of consecutive bytes from an address on
abbrev pub with_image_bytes : List ℕ → ℕ → List ℕ → List ℕ
with_image_bytes image a bytes = write_all with_image_byte image a bytes
