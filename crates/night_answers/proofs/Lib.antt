mod Notes
mod Reading
