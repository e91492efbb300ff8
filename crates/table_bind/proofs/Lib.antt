mod OneTable
mod Reading
