-- What the kit gives, in rows.
pub mod KitRows
